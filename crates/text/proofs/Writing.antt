-- Laws of writing: texts written one after another, and what is left to write in a loop. Assumes nothing.
--   wrote_then _▸_    two texts, one behind the other
--   wrote_as wrote_none   a text under another name, and nothing written
--   wrote_length      a buffer keeps its length
--   wrote_whole       a text that fits, written at the start
--   counted_short counted_fits counted_length   what the place behind a text says of its length
--   Left              what a loop still has to write; left_all at its start, left_behind where it starts behind a text, left_more at each
--                     turn, left_none at its end
--   left_item left_end           the same for a loop over the elements of a list;  left_skip  an element without text
--   each_append each_map         the texts of two lists, one behind the other; those of made elements
use mathlib.Core.List.{List, [], ◌∷◌, ◌++◌, append_assoc, map}
use mathlib.Core.Logic.{⊎_elim}
use mathlib.Core.Path.{◌≡◌, refl, sym, ap, ◌∙◌}
use Prim.Native.Nat.{ℕ, suc, ◌+◌, ◌≤◌, ◌<◌, min}
use native.Mathlib.Nat.{add-zero, zero-add, add-suc, suc-add, eq-or-lt_of_le, min-le_right}
use native.Mathlib.Omega.{arith}
use lib.ListN.{length, set, drop, get_or, length-append, length-set, drop_of_length-le}
use lib.Seq.{sets, length-sets, set_out, sets-eq}
use Rattle.text.specs.Writing.{top, Wrote, each}
use Rattle.text.proofs.Parts.{drop_next}

pub sets_append : (l : List ℕ) (i : ℕ) (s t : List ℕ) → sets l i (s ++ t) ≡ sets (sets l i s) (i + length s) t
sets_append l i [] t = ap (λ (k : ℕ). sets l k t) (sym (add-zero i))
sets_append l i (a ∷ s) t =
    sets_append (set l i a) (suc i) s t ∙ ap (λ (k : ℕ). sets (sets (set l i a) (suc i) s) k t) (suc-add i (length s) ∙ sym (add-suc i (length s)))

-- what is written behind the end is lost
pub sets_out : (l : List ℕ) (i : ℕ) (t : List ℕ) → length l ≤ i → sets l i t ≡ l
sets_out l i [] h = refl
sets_out l i (a ∷ t) h = sets_out (set l i a) (suc i) t (omega (arith, length-set l i a)) ∙ set_out l i a h

-- two places that are held alike serve alike
sets_alike : (l : List ℕ) (i j : ℕ) (t : List ℕ) → length l ≤ top → min i top ≡ min j top → sets l i t ≡ sets l j t
sets_alike l i j t h e =
    ⊎_elim (λ far. sets_out l i t (omega arith) ∙ sym (sets_out l j t (omega arith)))
    (λ near. let s : i ≡ j = omega arith in ap (λ (k : ℕ). sets l k t) s) (eq-or-lt_of_le (min-le_right i top))

pub wrote_length : {o s n : List ℕ} {a r : ℕ} → Wrote o a s n r → length n ≡ length o
wrote_length {o} {s} {n} {a} p = ap length p.bytes ∙ length-sets o a s

pub wrote_then : {o s m t n : List ℕ} {a e r : ℕ} → Wrote o a s m e → Wrote m e t n r → Wrote o a (s ++ t) n r
wrote_then {o} {s} {m} {t} {n} {a} {e} {r} p q = record {
  bytes =
      q.bytes ∙ sets_alike m e (a + length s) t q.short (omega (arith, p.place))
      ∙ ap (λ (l : List ℕ). sets l (a + length s) t) p.bytes ∙ sym (sets_append o a s t);
  place = omega (arith, p.place, q.place, length-append s t);
  short = p.short;
}

-- texts one behind the other: `wrote_then`, written between
infixl 20 ◌▸◌
pub ◌▸◌ : {o s m t n : List ℕ} {a e r : ℕ} → Wrote o a s m e → Wrote m e t n r → Wrote o a (s ++ t) n r
p ▸ q = wrote_then p q

pub wrote_as : {o s t n : List ℕ} {a r : ℕ} → s ≡ t → Wrote o a s n r → Wrote o a t n r
wrote_as e p = rw (← e) p

pub wrote_whole : {o text n : List ℕ} {r : ℕ} → Wrote o 0 text n r → length text ≤ length o → n ≡ text ++ drop (length text) o
wrote_whole {o} {text} p h = p.bytes ∙ sets-eq text o 0 (omega arith) ∙ simp zero-add

-- ---- a text written from the start on, over any buffer: its place tells how it compares with a room that a buffer can have
module _ {o text n : List ℕ} {r room : ℕ} (p : Wrote o 0 text n r) (w : room < top) where
  pub counted_short : room < r → room < length text
  counted_short h = omega (arith, p.place)

  pub counted_fits : r ≤ room → length text ≤ room
  counted_fits h = omega (arith, p.place)

  pub counted_length : length text ≤ room → r ≡ length text
  counted_length h = omega (arith, p.place)

-- what is left to write into `now` from place e on is `rest`, where in all `text` is to be written into `old` at place `at`
pub record Left (old : List ℕ) (at : ℕ) (text now : List ℕ) (e : ℕ) (rest : List ℕ) : Type 0 where
  pub bytes : sets now e rest ≡ sets old at text
  pub place : min (e + length rest) top ≡ min (at + length text) top
  pub same : length now ≡ length old
  pub short : length old ≤ top
  pub held : e ≤ top

pub left_all : (o : List ℕ) (a : ℕ) (text : List ℕ) → length o ≤ top → a ≤ top → Left o a text o a text
left_all o a text h w = record { bytes = refl; place = refl; same = refl; short = h; held = w }

pub left_behind : {o s m : List ℕ} {a e : ℕ} (text : List ℕ) → Wrote o a s m e → Left m e text m e text
left_behind {m = m} {e = e} text q = left_all m e text (omega (arith, wrote_length q, q.short)) (omega (arith, q.place))

pub left_more : {o text m t rest n : List ℕ} {a e r : ℕ} → Left o a text m e (t ++ rest) → Wrote m e t n r → Left o a text n r rest
left_more {o} {text} {m} {t} {rest} {n} {a} {e} {r} p q = record {
  bytes =
      sets_alike n r (e + length t) rest (omega (arith, wrote_length q, q.short)) (omega (arith, q.place))
      ∙ ap (λ (l : List ℕ). sets l (e + length t) rest) q.bytes ∙ sym (sets_append m e t rest) ∙ p.bytes;
  place = omega (arith, p.place, q.place, length-append t rest);
  same = wrote_length q ∙ p.same;
  short = p.short;
  held = omega (arith, q.place);
}

pub left_none : {o text m : List ℕ} {a e : ℕ} → Left o a text m e [] → Wrote o a text m e
left_none {o} {text} {m} {a} {e} p = record { bytes = p.bytes; place = omega (arith, p.place, p.held); short = p.short }

pub wrote_none : (o : List ℕ) (a : ℕ) → length o ≤ top → a ≤ top → Wrote o a [] o a
wrote_none o a h w = left_none (left_all o a [] h w)

-- ---- a loop that writes the texts of the elements of a list, one at a turn
module _ {X : Type 0} (f : X → List ℕ) (xs : List X) (k : ℕ) {o text m : List ℕ} {a e : ℕ} (p : Left o a text m e (each f (drop k xs))) where
  pub left_item : (d : X) {u : List ℕ} {r : ℕ} → k < length xs → Wrote m e (f (get_or xs k d)) u r → Left o a text u r (each f (drop (k + 1) xs))
  unfolding each
  left_item d h q = left_more (rw (drop_next xs k d h) at p) q

  -- an element without text
  pub left_skip : (d : X) → k < length xs → f (get_or xs k d) ≡ [] → Left o a text m e (each f (drop (k + 1) xs))
  unfolding each
  left_skip d h is = rw (drop_next xs k d h, is) at p

  pub left_end : length xs ≤ k → Wrote o a text m e
  unfolding each
  left_end h = left_none (rw (drop_of_length-le xs h) at p)

-- ---- the texts of the elements of a list
module _ {X : Type 0} (f : X → List ℕ) where
  pub each_append : (l r : List X) → each f (l ++ r) ≡ each f l ++ each f r
  unfolding each
  each_append [] r = refl
  each_append (x ∷ l) r = ap (λ (t : List ℕ). f x ++ t) (each_append l r) ∙ sym (append_assoc (f x) (each f l) (each f r))

  pub each_map : {Y : Type 0} (g : Y → X) (l : List Y) → each f (map g l) ≡ each (λ (y : Y). f (g y)) l
  unfolding each
  each_map g [] = refl
  each_map g (y ∷ l) = ap (λ (t : List ℕ). f (g y) ++ t) (each_map g l)
