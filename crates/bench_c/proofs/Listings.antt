-- A listing written again over itself. Assumes nothing.
--   shown_length shown_again   writing a text keeps the buffer's length, and writing it again changes nothing
--   list_again                 the same of a node's listing, and what is told of it
--   list_turn list_length      a round of a loop that lists, in whatever round it is
use mathlib.Core.Bool.{Bool, true, false, cond}
use mathlib.Core.List.{List, ◌++◌}
use mathlib.Core.Path.{◌≡◌, refl, ap}
use Prim.Native.Nat.{ℕ, ◌≤◌}
use native.Mathlib.Omega.{arith}
use borrow.Author.Tests.{ltb-false}
use lib.Dec.{eqb, ltb}
use lib.ListN.{length, drop, length-append, length-drop}
use lib.Seq.{drop-append_seam}
use Rattle.listing.specs.Answers.{refused_with, told, shown, list_told, list_shown}
use Rattle.listing.specs.Listing.{listing_of}
use Rattle.node.specs.declared.Node.{Node}
use Rattle.rules.specs.Answers.{not_sound}
use Rattle.rules.specs.Nodes.{sound}
use Rattle.bench_c.specs.Rounds.{after}
use Rattle.bench_c.proofs.Laws.{Turn}

module _ (o t : List ℕ) where
  shown_whole : length t ≤ length o → length (t ++ drop (length t) o) ≡ length o
  shown_whole h = omega (arith, h, length-append t (drop (length t) o), length-drop (length t) o)

  pub shown_length : length (shown o t) ≡ length o
  unfolding shown
  shown_length = go (ltb (length o) (length t)) refl
    where
      go : (b : Bool) → ltb (length o) (length t) ≡ b → length (cond b o (t ++ drop (length t) o)) ≡ length o
      go true e = refl
      go false e = shown_whole (ltb-false (length o) (length t) e)

  pub shown_again : shown (shown o t) t ≡ shown o t
  unfolding shown
  shown_again = rw shown_length (go (ltb (length o) (length t)))
    where
      go : (b : Bool) → cond b (cond b o (t ++ drop (length t) o)) (t ++ drop (length t) (cond b o (t ++ drop (length t) o))) ≡ cond b o (t ++ drop (length t) o)
      go true = refl
      go false = ap (λ (r : List ℕ). t ++ r) (drop-append_seam t (drop (length t) o))

  told_again : told (shown o t) t ≡ told o t
  unfolding told
  told_again = rw shown_length

module _ (n : Node) (o : List ℕ) where
  pub list_again : (list_told n (list_shown n o) ≡ list_told n o) × (list_shown n (list_shown n o) ≡ list_shown n o)
  unfolding list_told list_shown
  list_again = (tells (sound n), shows (sound n))
    where
      tells : (b : Bool) → cond b (told (cond b (shown o (listing_of n)) o) (listing_of n)) (refused_with not_sound) ≡ cond b (told o (listing_of n)) (refused_with not_sound)
      tells true = told_again o (listing_of n)
      tells false = refl

      shows : (b : Bool) → cond b (shown (cond b (shown o (listing_of n)) o) (listing_of n)) (cond b (shown o (listing_of n)) o) ≡ cond b (shown o (listing_of n)) o
      shows true = shown_again o (listing_of n)
      shows false = refl

  module _ {rounds i : ℕ} {m : List ℕ} (t : Turn rounds o (list_shown n o) i m) where
    pub list_turn : (list_told n m ≡ list_told n o) × (list_shown n m ≡ list_shown n o)
    unfolding after
    list_turn = rw t.last (go (eqb i 0))
      where
        go : (b : Bool) → (list_told n (cond b o (list_shown n o)) ≡ list_told n o) × (list_shown n (cond b o (list_shown n o)) ≡ list_shown n o)
        go true = (refl, refl)
        go false = list_again

    pub list_length : length m ≡ length o
    unfolding after list_shown
    list_length = rw t.last (go (eqb i 0) (sound n))
      where
        go : (b c : Bool) → length (cond b o (cond c (shown o (listing_of n)) o)) ≡ length o
        go true c = refl
        go false true = shown_length o (listing_of n)
        go false false = refl
