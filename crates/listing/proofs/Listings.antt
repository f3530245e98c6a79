-- What holds of every listing. Assumes nothing.
--   listing_equal    equal nodes have equal listings
--   listing_short    the listing of a sound node has at most `longest` bytes
--   listing_told     so a buffer of that length takes it
--   list_refused list_allowed   a node that is not sound, and one that is
use mathlib.Core.Bool.{Bool, true, false}
use mathlib.Core.List.{List, ◌++◌, map}
use mathlib.Core.Path.{◌≡◌, sym, ◌∙◌, ap}
use Prim.Native.Nat.{ℕ, ◌*◌, ◌≤◌}
use native.Mathlib.Omega.{arith}
use borrow.Author.Tests.{leb-true}
use lib.Dec.{leb}
use lib.ListN.{length, drop}
use Rattle.node.specs.declared.Node.{Node}
use Rattle.rules.proofs.All.{parts}
use Rattle.rules.proofs.Commits.{parts_of, number_of}
use Rattle.rules.specs.Answers.{not_sound}
use Rattle.rules.specs.Nodes.{sound, process, mailbox, row, standing, view, behaviours_of, Equal, Sound}
use Rattle.node.specs.Values.{numbers}
use Rattle.listing_lines.proofs.Longest.{Within, ◌⊕◌, made_within, longest_process, standing_within, longest_pair, pair_within}
use Rattle.listing_lines.specs.Lines.{standing_text, pair_text}
use Rattle.listing.specs.Answers.{Listed, refused_with, told, shown, known_told, known_shown, list_told, list_shown}
use Rattle.listing.specs.Listing.{rows_text, listing_text, listing_of, longest}
use Rattle.listing.proofs.Laws.{told_fits, known_told_lem}

pub listing_equal : (n m : Node) → Equal n m → listing_of n ≡ listing_of m
unfolding listing_of
listing_equal n m e = ap listing_text e

module _ (n : Node) (s : Sound n) where
  within : Within (listing_of n) longest
  unfolding listing_of listing_text view rows_text
  within =
      let p = parts_of n s in
      let count = length (behaviours_of n) in
      let few = leb-true count 8 (parts (leb 1 count) (leb count 8) p.few).1 in
      made_within standing_text (λ i. standing (process n i) (mailbox n i)) longest_process 1 16 (λ i a b.
      standing_within (behaviours_of n) few p.codes i (omega arith) (process n i) (mailbox n i) (p.processes i (number_of i a b)))
      ⊕ made_within rows_text (λ j. map (row n j) numbers) (16 * longest_pair) 1 16 (λ j a b.
      made_within (pair_text j) (row n j) longest_pair 1 16 (λ i c d.
      pair_within j i (omega arith) (omega arith) (row n j i) (p.rows j i (number_of j a b) (number_of i c d))))

  pub listing_short : length (listing_of n) ≤ longest
  listing_short = within.most

  -- what is told and shown of it where it is known to have at most that many bytes is what is told and shown of any text
  pub list_known : (o : List ℕ) {r : Listed} {m : List ℕ} → (r ≡ known_told longest o (listing_of n)) × (m ≡ known_shown longest o (listing_of n)) → (r ≡ told o (listing_of n))
      × (m ≡ shown o (listing_of n))
  list_known o p = let same = known_told_lem longest o (listing_of n) (omega arith) listing_short in (p.0 ∙ same.0, p.1 ∙ same.1)

  -- a buffer of that length is never short
  pub listing_told : (old : List ℕ) → longest ≤ length old
      → (told old (listing_of n) ≡ record { number = 0; length = length (listing_of n) }) × (shown old (listing_of n) ≡ listing_of n ++ drop (length (listing_of n)) old)
  listing_told old h = told_fits old (listing_of n) (omega (arith, listing_short))

-- 31 before 30: b is whether the node is sound
module _ (n : Node) (o : List ℕ) {b : Bool} (is : b ≡ sound n) where
  pub list_refused : b ≡ false → (refused_with not_sound ≡ list_told n o) × (o ≡ list_shown n o)
  unfolding list_told list_shown
  list_refused e = (rw (← is, e), rw (← is, e))

  pub list_allowed : {r : Listed} {m : List ℕ} → b ≡ true → (r ≡ known_told longest o (listing_of n)) × (m ≡ known_shown longest o (listing_of n)) → (r ≡ list_told n o) × (m ≡ list_shown n o)
  unfolding list_told list_shown
  list_allowed e p = let known = list_known n (sym is ∙ e) o p in (rw (← is, e) known.0, rw (← is, e) known.1)
