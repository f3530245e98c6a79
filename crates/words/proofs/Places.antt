-- The number of a word by the places of its letters, from the last to the first, and the place of a number by those before it.
-- Assumes nothing.
--   long_word               past the numbers of all words
--   packed_none letters_front packed_front packed_all   no letter, one letter more in front, all of them
--   word_below              the number of a word is below `long_word`
--   low_none high_none      a text that has a byte that is no small letter has no number
--   found_here found_next found_none   the place of a number, by the one at a place, and past the last
use mathlib.Core.Bool.{Bool, true, false, So, cond, ◌&&◌, and-false}
use mathlib.Core.List.{List, [], ◌∷◌}
use mathlib.Core.Path.{◌≡◌, refl, sym, ◌∙◌}
use Prim.Native.Nat.{ℕ, zero, suc, ◌+◌, ◌-◌, ◌*◌, ◌≤◌, ◌<◌, min}
use native.Mathlib.Nat.{le_refl}
use native.Mathlib.Omega.{arith}
use borrow.Author.Tests.{eq-eqb, ne_eqb, le-leb}
use lib.Dec.{leb}
use lib.ListN.{length, drop, get_or, drop_of_length-le}
use Rattle.std.specs.Prelude.{Some, None}
use Rattle.node.specs.Lists.{all_of}
use Rattle.rules.proofs.All.{both, all_of_at}
use Rattle.text.proofs.Parts.{drop_at}
use Rattle.words.specs.Words.{is_letter, packed, word_number, place_of}
use Rattle.words.proofs.Words.{Letters, letter_bounds, read_below}

abbrev pub long_word : ℕ
long_word = 1125899906842624

pub packed_none : (l : List ℕ) → Letters (drop (length l) l) × (1 ≡ min (packed (drop (length l) l)) long_word)
unfolding packed
packed_none l = rw (drop_of_length-le l (le_refl (length l))) (refl, refl)

module _ (l : List ℕ) (k : ℕ) (some : 0 < k) (h : k ≤ length l) where
  front : drop (k - 1) l ≡ get_or l (k - 1) 0 ∷ drop k l
  front = let next : k - 1 + 1 ≡ k = omega arith in drop_at l (k - 1) (omega arith) ∙ rw next

  pub letters_front : Letters (drop k l) → 97 ≤ get_or l (k - 1) 0 → get_or l (k - 1) 0 ≤ 122 → Letters (drop (k - 1) l)
  letters_front p x y = rw front (both (both (le-leb 97 (get_or l (k - 1) 0) x) (le-leb (get_or l (k - 1) 0) 122 y)) p)

  pub packed_front : {n r : ℕ} → n ≡ min (packed (drop k l)) long_word → r ≡ min ((get_or l (k - 1) 0 - 96) + 32 * n) long_word → r ≡ min (packed (drop (k - 1) l)) long_word
  unfolding packed
  packed_front p e = rw front (omega (arith, p, e))

-- the number of a word is not held
pub word_below : (l : List ℕ) → length l ≤ 9 → Letters l → packed l < long_word
word_below l h g = omega (arith, read_below {l = l} {left = []} h (record { all = refl; letters = g; number = refl }))

pub packed_all : (l : List ℕ) (k : ℕ) {n : ℕ} → length l ≤ 9 → k ≤ 0 → Letters (drop k l) → n ≡ min (packed (drop k l)) long_word → Some n ≡ word_number l
unfolding word_number
packed_all l zero {n} few h g p =
    let is : n ≡ packed l = omega (arith, p, word_below l few g) in
    rw (le-leb (length l) 9 few, g, is)
packed_all l (suc k) few h g p = let no : ⊥ = omega arith in absurd no

unlettered : (l : List ℕ) (k : ℕ) → k < length l → (So (is_letter (get_or l k 0)) → ⊥) → None ≡ word_number l
unfolding word_number
unlettered l k h none = go (all_of is_letter l) refl
  where
    go : (t : Bool) → all_of is_letter l ≡ t → None ≡ cond (leb (length l) 9 && t) (Some (packed l)) None
    go true e = absurd (none (all_of_at is_letter 0 l e k h))
    go false e = rw (and-false (leb (length l) 9))

pub low_none : (l : List ℕ) (k : ℕ) → k < length l → get_or l k 0 < 97 → None ≡ word_number l
low_none l k h g = unlettered l k h (λ is. let b = letter_bounds (get_or l k 0) is in omega (arith, g, b))

pub high_none : (l : List ℕ) (k : ℕ) → k < length l → 122 < get_or l k 0 → None ≡ word_number l
high_none l k h g = unlettered l k h (λ is. let b = letter_bounds (get_or l k 0) is in omega (arith, g, b))

module _ (n : ℕ) (ns : List ℕ) (k : ℕ) {g : ℕ} (i : k + place_of n (drop k ns) ≡ g) where
  pub found_here : k < length ns → get_or ns k 0 ≡ n → k ≡ g
  unfolding place_of
  found_here h e = let z : place_of n (drop k ns) ≡ 0 = rw (drop_at ns k h, eq-eqb _ _ (sym e)) in omega arith

  pub found_next : k < length ns → (get_or ns k 0 ≡ n → ⊥) → k + 1 + place_of n (drop (k + 1) ns) ≡ g
  unfolding place_of
  found_next h e =
      let z : place_of n (drop k ns) ≡ suc (place_of n (drop (k + 1) ns)) = rw (drop_at ns k h, ne_eqb _ _ (λ q. e (sym q))) in
      omega arith

  pub found_none : length ns ≤ k → k ≡ g
  unfolding place_of
  found_none h = let z : place_of n (drop k ns) ≡ 0 = rw (drop_of_length-le ns h) in omega arith
