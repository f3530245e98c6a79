-- Laws of lines that are read with their byte 10, as the library's `split_inclusive` gives them. Assumes nothing.
--   Piece           the next of a text: up to its first byte 10 and with it, or all that is left
--   piece_of        the next piece, from what the iterator tells
--   ended_line      a piece with a byte 10 is a line; the text behind it has the lines that follow
--   unended_line    a piece without one is the rest of the text, which has no line
use mathlib.Core.Bool.{Bool, true, false, and-true, false≢true}
use mathlib.Core.List.{List, [], ◌∷◌, ◌++◌}
use mathlib.Core.Path.{◌≡◌, refl, sym, ap, ◌∙◌}
use Prim.Native.Nat.{ℕ, zero, suc, ◌+◌, ◌-◌, ◌≤◌, ◌<◌, min}
use native.Mathlib.Nat.{sub-zero}
use native.Mathlib.Omega.{arith}
use borrow.Author.Tests.{ltb-true, ltb-false}
use lib.Dec.{eqb, ltb}
use lib.Pointwise.{pointwise}
use lib.ListN.{length, take, drop, get_or, get_or-append, length-append, drop_of_length-le}
use lib.Seq.{drop-append_seam}
use Rattle.std.proofs.lemmas.List.{take-append-le}
use Rattle.std.proofs.lemmas.List.Sorted.{answers_always}
use Rattle.std.specs.Borrow.{Bor}
use Rattle.std.specs.Fn.{Called, ComputesKey}
use Rattle.std.specs.List.{IsFirstMatchOrLen}
use denote.Param.Members.{Mut}
use Rattle.text.specs.Parts.{line_byte, before, place_from, line_then, lines_of}
use Rattle.text.proofs.Parts.{drop_at, lines_at, lines_rest}

pub record Piece (l x rest : List ℕ) : Type 0 where
  pub all : l ≡ x ++ rest
  pub some : 0 < length l
  pub first : ℕ
  pub size : length x ≡ min (first + 1) (length l)
  pub is : IsFirstMatchOrLen (λ b. eqb b line_byte) l first

-- what the iterator tells of a call of `next`, where its closure tests for byte 10
pub piece_of : {F : Type 0} {g : Mut F (Bor ℕ × Unit {0}) Bool} {f h : F} {l x rest : List ℕ}
    → (l ≡ x ++ rest)
    × ((i : ℕ) × (length x ≡ min (i + 1) (length l)) × ((p : ℕ → Bool) → ComputesKey g p f → ComputesKey g p h × IsFirstMatchOrLen p l i))
    × (0 < length l)
    → ((k : F) (a : Bor ℕ × Unit {0}) (r : Bool) (q : F) → Called g k a r q → r ≡ eqb a.0.now line_byte)
    → Piece l x rest
piece_of s tests = record {
  all = s.0;
  some = s.2;
  first = s.1.0;
  size = s.1.1;
  is = (s.1.2 (λ b. eqb b line_byte) (answers_always _ _ _ tests)).1;
}

before_is : (l : List ℕ) (i : ℕ) → IsFirstMatchOrLen (λ b. eqb b line_byte) l i → before line_byte l ≡ min i (length l)
unfolding before
before_is [] i f = omega arith
before_is (b ∷ l) zero f = rw (f.1 (omega arith) 0) (omega arith)
before_is (b ∷ l) (suc i) f =
    let ih = before_is l i (λ k d h g. f.0 (suc k) d (omega arith) (omega arith), λ h d. f.1 (omega (arith, h)) d) in
    rw (f.0 0 0 (omega arith) (omega arith)) (omega (arith, ih))

module _ {l x rest : List ℕ} (p : Piece l x rest) where
  abbrev pub ended : Bool
  ended = pointwise eqb (drop (length x - 1) x) (line_byte ∷ [])

  inside : length x - 1 < length x
  inside = omega (arith, p.size, p.some)

  long : length l ≡ length x + length rest
  long = ap length p.all ∙ length-append x rest

  -- it is ended where its last byte is byte 10
  ended_is : ended ≡ eqb (get_or l (length x - 1) 0) line_byte
  ended_is =
      let none : drop (length x - 1 + 1) x ≡ [] = drop_of_length-le x (omega arith) in
      let same : get_or l (length x - 1) 0 ≡ get_or x (length x - 1) 0 = ap (λ (k : List ℕ). get_or k (length x - 1) 0) p.all ∙ get_or-append x rest 0 (length x - 1) inside in
      rw (drop_at x (length x - 1) inside, none, same, and-true (eqb (get_or x (length x - 1) 0) line_byte))

  near : p.first < length l → ended ≡ true
  near h = let at : length x - 1 ≡ p.first = omega (arith, p.size) in ended_is ∙ rw at (p.is.1 h 0)

  far : length l ≤ p.first → ended ≡ false
  far h = ended_is ∙ p.is.0 (length x - 1) 0 (omega arith) (omega (arith, p.size, p.some, inside))

  place : before line_byte l ≡ min p.first (length l)
  place = before_is l p.first p.is

  pub ended_line : ended ≡ true → lines_of l ≡ line_then (take (length x - 1) x) (lines_of rest)
  unfolding place_from
  ended_line e = go (ltb p.first (length l)) refl
    where
      go : (t : Bool) → ltb p.first (length l) ≡ t → lines_of l ≡ line_then (take (length x - 1) x) (lines_of rest)
      go false f = absurd (false≢true (sym (far (ltb-false p.first (length l) f)) ∙ e))
      go true f =
          let h = ltb-true p.first (length l) f in
          let size : length x ≡ p.first + 1 = omega (arith, p.size, h) in
          let short : p.first ≡ length x - 1 = omega (arith, size) in
          let front : take p.first l ≡ take (length x - 1) x =
          ap (take p.first) p.all ∙ take-append-le p.first x rest (omega (arith, size)) ∙ ap (λ (n : ℕ). take n x) short in
          let back : drop (p.first + 1) l ≡ rest = ap (drop (p.first + 1)) p.all ∙ ap (λ (n : ℕ). drop n (x ++ rest)) (sym size) ∙ drop-append_seam x rest in
          let here : p.first ≡ place_from line_byte 0 l = omega (arith, place, h) in
          let cut : lines_of l ≡ line_then (take (p.first - 0) l) (lines_of (drop (p.first + 1) l)) = lines_at l {at = 0} (omega arith) here h in
          rw (sub-zero, front, back) at cut

  pub unended_line : ended ≡ false → lines_of l ≡ record { whole = []; rest = l }
  unfolding place_from
  unended_line e = go (ltb p.first (length l)) refl
    where
      go : (t : Bool) → ltb p.first (length l) ≡ t → lines_of l ≡ record { whole = []; rest = l }
      go true f = absurd (false≢true (sym e ∙ near (ltb-true p.first (length l) f)))
      go false f = lines_rest l {at = 0} {e = length l} (omega arith) (omega (arith, place, ltb-false p.first (length l) f)) (omega arith)
