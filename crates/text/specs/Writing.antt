-- Texts written into a buffer, and the texts of numbers.
--   top             the largest usize: places are counted up to here and stay here
--   Wrote old at text new r   `new` is the buffer `old` with `text` written at place `at`, as far as the buffer reaches, and r is the
--                   place behind the text
--   digits_in f t n  n in base ten; t says that n is below 10, and f, at least n, bounds the recursion
--   digits n        n in base ten
--   int_text z       z in base ten, with a minus where it is below 0
--   line_end         the byte that ends each line
--   number_line key n   a line with a key and a number
--   each f xs       the texts of the elements of xs, one after another
use Rattle.std.specs.Prelude.{Bool, true, false, List, [], ◌∷◌, ◌++◌, ◌≡◌, ℕ, zero, suc, ◌+◌, ◌/◌, ◌%◌, ◌≤◌, min, ltb, ℤ, pos, negsuc, length}
use Prim.Native.Char.{code}
use Rattle.std.proofs.lemmas.List.Edits.{sets}
use Rattle.node.specs.Texts.{bytes}

abbrev pub top : ℕ
top = 18446744073709551615

-- `sets old at text` puts the bytes of text at the places from `at` on, one by one; a place past the end takes none. No buffer is longer
-- than `top`
pub record Wrote (old : List ℕ) (at : ℕ) (text new : List ℕ) (r : ℕ) : Type 0 where
  pub bytes : new ≡ sets old at text
  pub place : r ≡ min (at + length text) top
  pub short : length old ≤ top

unfoldable pub digits_in : ℕ → Bool → ℕ → List ℕ
digits_in zero t n = (code "0" + n) ∷ []
digits_in (suc f) true n = (code "0" + n) ∷ []
digits_in (suc f) false n = digits_in f (ltb (n / 10) 10) (n / 10) ++ ((code "0" + n % 10) ∷ [])

unfoldable pub digits : ℕ → List ℕ
digits n = digits_in n (ltb n 10) n

unfoldable pub int_text : ℤ → List ℕ
int_text (pos n) = digits n
int_text (negsuc n) = code "-" ∷ digits (suc n)

abbrev pub line_end : List ℕ
line_end = bytes "\n"

unfoldable pub number_line : List ℕ → ℕ → List ℕ
number_line key n = key ++ digits n ++ line_end

unfoldable pub each : {X : Type 0} → (X → List ℕ) → List X → List ℕ
each f [] = []
each f (x ∷ xs) = f x ++ each f xs
