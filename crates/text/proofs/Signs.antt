-- The text of an integer, by its sign. Assumes nothing.
use mathlib.Core.Bool.{Bool, true, false}
use mathlib.Core.List.{List, ◌∷◌}
use mathlib.Core.Path.{◌≡◌, refl, sym, ap, ◌∙◌, subst}
use Prim.Native.Nat.{ℕ}
use Prim.Native.Char.{code}
use native.Mathlib.Nat.{not-suc-le-zero}
use native.Mathlib.Omega.{arith}
use borrow.Author.Tests.{ltb-true}
use lib.IntN.{ℤ, pos, negsuc, nat_abs}
use lib.Signed.{lt_z}
use mir.Facts.{to_z-of_z}
use mir.Syntax.{w32}
use mir.Val.{SFits, to_z, of_z}
use Rattle.text.specs.Writing.{Wrote, digits, int_text}

minus : (z : ℤ) → lt_z z (pos 0) ≡ true → int_text z ≡ code "-" ∷ digits (nat_abs z)
unfolding int_text
minus (pos n) e = absurd (not-suc-le-zero (ltb-true n 0 e))
minus (negsuc n) e = refl

no_minus : (z : ℤ) → lt_z z (pos 0) ≡ false → int_text z ≡ digits (nat_abs z)
unfolding int_text
no_minus (pos n) e = refl
no_minus (negsuc n) e = let o : ◌≡◌ {A = ℕ} 0 1 = cc in let no : ⊥ = omega arith in absurd no

-- the machine reads z from its bits
abbrev read : ℤ → ℤ
read z = to_z w32 (of_z w32 z)

module _ (z : ℤ) (f : SFits w32 z) where
  sign : {t : Bool} → lt_z (read z) (pos 0) ≡ t → lt_z z (pos 0) ≡ t
  sign e = ap (λ (y : ℤ). lt_z y (pos 0)) (sym (to_z-of_z f)) ∙ e

  -- the text of an integer that was read from its bits
  pub wrote_read : {old new : List ℕ} {at r : ℕ} → Wrote old at (int_text (read z)) new r → Wrote old at (int_text z) new r
  wrote_read {old} {new} {at} {r} p = subst (λ (y : ℤ). Wrote old at (int_text y) new r) (to_z-of_z f) p

  module _ {n : ℕ} (h : n ≡ nat_abs (read z)) where
    pub text_minus : lt_z (read z) (pos 0) ≡ true → int_text z ≡ code "-" ∷ digits n
    text_minus e = minus z (sign e) ∙ ap (λ (m : ℕ). code "-" ∷ digits m) (sym (h ∙ ap nat_abs (to_z-of_z f)))

    pub text_no_minus : lt_z (read z) (pos 0) ≡ false → int_text z ≡ digits n
    text_no_minus e = no_minus z (sign e) ∙ ap digits (sym (h ∙ ap nat_abs (to_z-of_z f)))
