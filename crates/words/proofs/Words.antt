-- Laws of words as numbers: a word is found by its number where it is found by its bytes. Assumes nothing.
--   read_none read_letter read_all   the turns of `word_code`
--   long_none letter_none   a text that is longer than every word, or has a byte that is no letter, has no number
--   packed_same             words with the same number are the same
--   index_place index_none  the place of a word among words, by its number; a text that is no word has none
--   position_place          the place of a number among numbers, as the library gives it
use mathlib.Core.Bool.{Bool, true, false, So, cond, ◌&&◌, and-false, false≢true}
use mathlib.Core.List.{List, [], ◌∷◌, ◌++◌, map}
use mathlib.Core.Path.{◌≡◌, refl, sym, ap, ◌∙◌}
use Prim.Native.Nat.{ℕ, suc, ◌+◌, ◌-◌, ◌*◌, ◌^◌, ◌≤◌, ◌<◌}
use native.Mathlib.Nat.{le_refl, pow-suc, pow-le-pow_right}
use native.Mathlib.Omega.{arith}
use borrow.Author.Tests.{eq-eqb, ne_eqb, leb-true, le-leb, lt-leb}
use lib.Dec.{eqb, leb}
use lib.ListN.{length, drop, get_or, drop_of_length-le, length-append, length-drop}
use Rattle.std.specs.Prelude.{Some, None, not, position}
use Rattle.std.specs.List.{position_or_len}
use Rattle.std.proofs.lemmas.List.{append_assoc, append-nil}
use Rattle.std.proofs.Math.Seq.{drop-append_seam}
use Rattle.node.specs.Lists.{all_of}
use Rattle.rules.proofs.All.{both, parts, all_of_at}
use Rattle.text.specs.Parts.{equal, index_of}
use Rattle.text.proofs.Parts.{drop_at, equal_true, equal_self}
use Rattle.words.specs.Words.{is_letter, is_word, packed, word_number, place_of, found}

abbrev pub Letters : List ℕ → Type 0
Letters l = So (all_of is_letter l)

pub letter_bounds : (b : ℕ) → So (is_letter b) → (97 ≤ b) × (b ≤ 122)
letter_bounds b h = let w = parts (leb 97 b) (leb b 122) h in (leb-true 97 b w.0, leb-true b 122 w.1)

-- ---- the turns of `word_code`: the letters that are left, and those behind them
pub record Read (l left : List ℕ) (code : ℕ) : Type 0 where
  pub all : left ++ drop (length left) l ≡ l
  pub letters : Letters (drop (length left) l)
  pub number : code ≡ packed (drop (length left) l)

pub read_none : (l : List ℕ) → Read l l 1
unfolding packed
read_none l = let none : drop (length l) l ≡ [] = drop_of_length-le l (le_refl (length l)) in
    record { all = rw (none, append-nil); letters = rw none refl; number = rw none refl }

module _ {l left : List ℕ} {code : ℕ} (i : Read l left code) (rest : List ℕ) (b : ℕ) (h : left ≡ rest ++ (b ∷ [])) where
  apart : rest ++ (b ∷ drop (length left) l) ≡ l
  apart = sym (append_assoc rest (b ∷ []) (drop (length left) l)) ∙ ap (λ (k : List ℕ). k ++ drop (length left) l) (sym h) ∙ i.all

  front : drop (length rest) l ≡ b ∷ drop (length left) l
  front = ap (drop (length rest)) (sym apart) ∙ drop-append_seam rest (b ∷ drop (length left) l)

  pub read_letter : {r : ℕ} → is_letter b ≡ true → r ≡ (b - 97 + 1) + 32 * code → Read l rest r
  unfolding packed
  read_letter is e = record { all = rw front apart; letters = rw front (both is i.letters); number = rw front (omega (arith, e, i.number, letter_bounds b is)) }

  pub letter_none : is_letter b ≡ false → None ≡ word_number l
  unfolding word_number
  letter_none none = go (all_of is_letter l) refl
    where
      inside : length rest < length l
      inside = omega (arith, ap length apart, length-append rest (b ∷ drop (length left) l))

      here : get_or l (length rest) 0 ≡ b
      here = let p = front in let q = drop_at l (length rest) inside in cc

      go : (t : Bool) → all_of is_letter l ≡ t → None ≡ cond (leb (length l) 9 && t) (Some (packed l)) None
      go true e = absurd (false≢true (sym none ∙ ap is_letter (sym here) ∙ all_of_at is_letter 0 l e (length rest) inside))
      go false e = rw (and-false (leb (length l) 9))

packed_most : (l : List ℕ) → Letters l → packed l < 2 * 32 ^ length l
unfolding packed
packed_most [] h = omega arith
packed_most (b ∷ l) h =
    let w = parts (is_letter b) (all_of is_letter l) h in
    omega (arith, letter_bounds b w.0, packed_most l w.1, pow-suc 32 (length l))

-- the number of a word is far below the largest `u64`
pub read_below : {l left : List ℕ} {code : ℕ} → length l ≤ 9 → Read l left code → code < 2 ^ 46
read_below {l} {left} h i =
    let few : length (drop (length left) l) ≤ 9 = omega (arith, h, length-drop (length left) l) in
    omega (arith, i.number, packed_most (drop (length left) l) i.letters, pow-le-pow_right {n = 32} (omega arith) few)

pub read_all : (l : List ℕ) {left : List ℕ} {code : ℕ} → length l ≤ 9 → Read l left code → length left ≡ 0 → Some code ≡ word_number l
unfolding word_number
read_all l {left = []} few i e = rw (le-leb (length l) 9 few, i.letters, i.number)
read_all l {left = b ∷ k} few i e = let no : ⊥ = omega arith in absurd no

pub long_none : (l : List ℕ) → 9 < length l → None ≡ word_number l
unfolding word_number
long_none l h = rw (lt-leb (length l) 9 h)

-- ---- a number stands for one word
packed_some : (l : List ℕ) → 1 ≤ packed l
unfolding packed
packed_some [] = omega arith
packed_some (b ∷ l) = omega (arith, packed_some l)

pub packed_same : (k l : List ℕ) → Letters k → Letters l → packed k ≡ packed l → k ≡ l
unfolding packed
packed_same [] [] h g e = refl
packed_same [] (b ∷ l) h g e = let no : ⊥ = omega (arith, packed_some l) in absurd no
packed_same (a ∷ k) [] h g e = let no : ⊥ = omega (arith, packed_some k) in absurd no
packed_same (a ∷ k) (b ∷ l) h g e =
    let x = parts (is_letter a) (all_of is_letter k) h in
    let y = parts (is_letter b) (all_of is_letter l) g in
    let first : a ≡ b = omega (arith, letter_bounds a x.0, letter_bounds b y.0) in
    let rest : k ≡ l = packed_same k l x.1 y.1 (omega (arith, first)) in
    cc

-- ---- a word among words
module _ (w : List ℕ) where
  pub packed_equal : {r : ℕ} (p : List ℕ) → Some r ≡ word_number w → So (is_word p) → eqb r (packed p) ≡ equal p w
  unfolding word_number
  packed_equal {r} p x h = go (equal p w) refl
    where
      is : So (leb (length p) 9) × So (all_of is_letter p)
      is = parts (leb (length p) 9) (all_of is_letter p) h

      differs : equal p w ≡ false → (t : Bool) → is_word w ≡ t → Some r ≡ cond t (Some (packed w)) None → r ≡ packed p → ⊥
      differs e false f y q = let no : ⊥ = cc in no
      differs e true f y q =
          let same : w ≡ p = packed_same w p (parts (leb (length w) 9) (all_of is_letter w) f).1 is.1 cc in
          false≢true (sym e ∙ ap (equal p) same ∙ equal_self p)

      go : (t : Bool) → equal p w ≡ t → eqb r (packed p) ≡ t
      go true e = let q : p ≡ w = equal_true p w e in let y : Some r ≡ Some (packed p) = x ∙ rw (← q, h) in eq-eqb r (packed p) cc
      go false e = ne_eqb r (packed p) (differs e (is_word w) refl x)

  pub index_place : {r : ℕ} (ws : List (List ℕ)) → Some r ≡ word_number w → So (all_of is_word ws) → place_of r (map packed ws) ≡ index_of w ws
  unfolding place_of index_of
  index_place [] x h = refl
  index_place (p ∷ ws) x h =
      let q = parts (is_word p) (all_of is_word ws) h in
      rw (packed_equal p x q.0, index_place ws x q.1)

  -- no text that is no word is among them
  pub index_none : (ws : List (List ℕ)) → None ≡ word_number w → So (all_of is_word ws) → length ws ≡ index_of w ws
  unfolding index_of word_number
  index_none [] x h = refl
  index_none (p ∷ ws) x h =
      let q = parts (is_word p) (all_of is_word ws) h in
      rw (differs (equal p w) refl (is_word w) refl x q.0, ← index_none ws x q.1)
    where
      differs : (t : Bool) → equal p w ≡ t → (u : Bool) → is_word w ≡ u → None ≡ cond u (Some (packed w)) None → So (is_word p) → t ≡ false
      differs false e u f y k = refl
      differs true e true f y k = let no : ⊥ = cc in absurd no
      differs true e false f y k = absurd (false≢true (sym f ∙ ap is_word (sym (equal_true p w e)) ∙ k))

-- ---- the place of a number
position_place_lem : (n : ℕ) (ns : List ℕ) → position_or_len (λ m. eqb n m) ns ≡ place_of n ns
unfolding place_of
position_place_lem n [] = refl
position_place_lem n (m ∷ ns) = go (eqb n m) (position_place_lem n ns)
  where
    go : (t : Bool) → position_or_len (λ j. eqb n j) ns ≡ place_of n ns
        → cond (not t) (1 + position_or_len (λ j. eqb n j) ns) 0 ≡ cond t 0 (suc (place_of n ns))
    go true e = refl
    go false e = omega (arith, e)

pub position_place : (n : ℕ) (ns : List ℕ) → position (λ m. eqb n m) ns ≡ found (place_of n ns) (length ns)
position_place n ns = ap (λ (k : ℕ). found k (length ns)) (position_place_lem n ns)
