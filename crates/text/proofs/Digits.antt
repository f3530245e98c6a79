-- Laws of the digits of a number and of the text of an integer. Assumes nothing.
use mathlib.Core.Bool.{Bool, true, false}
use mathlib.Core.List.{List, [], ◌∷◌, ◌++◌}
use mathlib.Core.Path.{◌≡◌, refl, ap, ◌∙◌}
use Prim.Native.Nat.{ℕ, zero, suc, ◌+◌, ◌/◌, ◌%◌, ◌^◌, ◌≤◌, ◌<◌}
use Prim.Native.Char.{code}
use native.Mathlib.Nat.{pow-suc, one-le-pow}
use native.Mathlib.Numerals.{add-one}
use native.Mathlib.Omega.{arith}
use borrow.Author.Tests.{lt-ltb, le-ltb, ltb-true, ltb-false}
use lib.Dec.{ltb}
use lib.ListN.{length, length-append}
use Rattle.text.specs.Writing.{digits_in, digits}

-- a bound that is enough is as good as another
stable : (f g n : ℕ) → n ≤ f → n ≤ g → digits_in f (ltb n 10) n ≡ digits_in g (ltb n 10) n
unfolding digits_in
stable zero zero n h k = refl
stable zero (suc g) n h k = rw (lt-ltb n 10 (omega arith))
stable (suc f) zero n h k = rw (lt-ltb n 10 (omega arith))
stable (suc f) (suc g) n h k = by_size (ltb n 10) refl (λ l. stable f g (n / 10) (omega arith) (omega arith))
  where
    by_size : (t : Bool) → ltb n 10 ≡ t
        → (10 ≤ n → digits_in f (ltb (n / 10) 10) (n / 10) ≡ digits_in g (ltb (n / 10) 10) (n / 10))
        → digits_in (suc f) t n ≡ digits_in (suc g) t n
    by_size true e ih = refl
    by_size false e ih = ap (λ (l : List ℕ). l ++ ((code "0" + n % 10) ∷ [])) (ih (ltb-false n 10 e))

pub digits_one : (n : ℕ) → n < 10 → digits n ≡ (code "0" + n) ∷ []
unfolding digits digits_in
digits_one zero h = refl
digits_one (suc n) h = rw (lt-ltb (suc n) 10 h)

pub digits_more : (n : ℕ) → 10 ≤ n → digits n ≡ digits (n / 10) ++ ((code "0" + n % 10) ∷ [])
unfolding digits digits_in
digits_more zero h = let no : ⊥ = omega arith in absurd no
digits_more (suc n) h =
    rw (le-ltb (suc n) 10 h)
    (ap (λ (l : List ℕ). l ++ ((code "0" + suc n % 10) ∷ [])) (stable n (suc n / 10) (suc n / 10) (omega arith) (omega arith)))

-- a number below 10 ^ k has at most k digits; 0 has one
pub digits_length : (k n : ℕ) → n < 10 ^ suc k → length (digits n) ≤ suc k
digits_length zero n h = rw (digits_one n h) (omega arith)
digits_length (suc k) n h = by_size (ltb n 10) refl (λ m. digits_length k (n / 10) (omega (arith, pow-suc 10 (suc k))))
  where
    by_size : (t : Bool) → ltb n 10 ≡ t → (10 ≤ n → length (digits (n / 10)) ≤ suc k) → length (digits n) ≤ suc (suc k)
    by_size true e ih = rw (digits_one n (ltb-true n 10 e)) (omega arith)
    by_size false e ih = let many = ltb-false n 10 e in rw (digits_more n many) (omega (arith, ih many, length-append (digits (n / 10)) ((code "0" + n % 10) ∷ [])))

-- a number from 10 ^ k on, below ten times as much, has k + 1 digits
pub digits_wide : (k n : ℕ) → 10 ^ k ≤ n → n < 10 ^ suc k → length (digits n) ≡ suc k
digits_wide zero n l h = rw (digits_one n h) refl
digits_wide (suc k) n l h =
    let many : 10 ≤ n = omega (arith, pow-suc 10 k, one-le-pow k 10 (omega arith)) in
    let front = digits_wide k (n / 10) (omega (arith, pow-suc 10 k)) (omega (arith, pow-suc 10 (suc k))) in
    rw (digits_more n many) (length-append (digits (n / 10)) ((code "0" + n % 10) ∷ []) ∙ ap (λ (j : ℕ). j + 1) front ∙ add-one (suc k))

pub digits_some : (n : ℕ) → 1 ≤ length (digits n)
digits_some n = by_size (ltb n 10) refl
  where
    by_size : (t : Bool) → ltb n 10 ≡ t → 1 ≤ length (digits n)
    by_size true e = rw (digits_one n (ltb-true n 10 e)) (omega arith)
    by_size false e = rw (digits_more n (ltb-false n 10 e)) (omega (arith, length-append (digits (n / 10)) ((code "0" + n % 10) ∷ [])))
