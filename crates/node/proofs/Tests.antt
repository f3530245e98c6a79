-- What a test `if !f(x) { return false; }` tells of the definition b that f's result is, and what `within` tells. Assumes nothing.
use mathlib.Core.Bool.{Bool, true, false, ◌&&◌, not, and-eq-true_iff}
use mathlib.Core.Path.{◌≡◌, sym, ◌∙◌}
use Prim.Native.Nat.{ℕ, ◌≤◌}
use borrow.Author.Tests.{leb-true, not-false, not-true}
use lib.Dec.{leb}

pub failed : {r b : Bool} → r ≡ b → not r ≡ true → b ≡ false
failed {r} e t = sym e ∙ not-true r t

pub passed : {r b : Bool} → r ≡ b → not r ≡ false → b ≡ true
passed {r} e t = sym e ∙ not-false r t

pub within_is : (n least most : ℕ) → (leb least n && leb n most) ≡ true → (least ≤ n) × (n ≤ most)
within_is n least most e = let h = (and-eq-true_iff (leb least n) (leb n most)).0 e in (leb-true least n h.0, leb-true n most h.1)
