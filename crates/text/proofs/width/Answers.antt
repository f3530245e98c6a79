-- `width` counts the digits of a number: one more than its logarithm, and one where it is 0. Assumes nothing.
use mathlib.Core.Path.{sym, ap, ◌∙◌}
use native.Mathlib.Nat.{pow-suc}
use native.Mathlib.Numerals.{add-one}
use native.Mathlib.Omega.{arith}
use lib.ListN.{length}
use Rattle.text.proofs.Digits.{digits_one, digits_wide}
use Rattle.text.proofs.width.Goals as goal

pub returns-in-None : goal.returns-in-None
returns-in-None c = sym (ap length (digits_one _ (omega (arith, c.in-None.ensures.none))))

pub returns-in-Some : goal.returns-in-Some
returns-in-Some c =
    add-one _ ∙ sym (digits_wide c.in-Some.k _ c.in-Some.ensures.power_le (omega (arith, c.in-Some.ensures.next_power_gt, pow-suc 10 c.in-Some.k)))
