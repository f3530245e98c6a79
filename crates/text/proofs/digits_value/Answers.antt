-- `digits_value` gives the value of digits, held at the ceiling. The invariant: n and the digits from the index on give it. Assumes nothing.
use mathlib.Core.Path.{sym, ◌∙◌}
use native.Mathlib.Omega.{arith}
use Rattle.text.specs.Numbers.{is_digit}
use Rattle.text.proofs.Numbers.{digits_bad, digits_more, digits_end}
use Rattle.text.proofs.digits_value.Goals as goal

pub returns-then-not-is_ascii_digit : goal.returns-then-not-is_ascii_digit
unfolding is_digit
returns-then-not-is_ascii_digit c =
    digits_bad _ _ _ c.loop-b.invariant.1 c.loop-b-test.true (sym c.is_ascii_digit.ensures.value ∙ c.if-not-is_ascii_digit.true)

pub loop-b-preserved : goal.loop-b-preserved
unfolding is_digit
loop-b-preserved c =
    let digit = sym c.is_ascii_digit.ensures.value ∙ c.if-not-is_ascii_digit.false in
    (omega (arith, c.held-n.ensures), digits_more _ _ _ c.loop-b.invariant.1 c.loop-b-test.true digit c.held-n.ensures)

pub returns : goal.returns
returns c = digits_end _ _ _ c.loop-b.invariant.1 c.loop-b-test.false c.loop-b.invariant.0
