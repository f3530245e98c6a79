-- `natural` gives the value of an unsigned number, held at the ceiling. Assumes nothing.
use mathlib.Core.Path.{◌∙◌}
use Rattle.text.proofs.Numbers.{natural_none, natural_zero, natural_other}
use Rattle.text.proofs.natural.Goals as goal

pub returns-in_err-first : goal.returns-in_err-first
returns-in_err-first c = c.from_residual.ensures ∙ natural_none _ c.in_err-first.ensures.value

pub returns-then-first-eq48 : goal.returns-then-first-eq48
returns-then-first-eq48 c = c.then_some.ensures ∙ natural_zero _ c.in_ok-first.ensures.value c.if-first-eq48.true

pub returns : goal.returns
returns c = natural_other _ c.in_ok-first.ensures.value c.if-first-eq48.false c.digits_value.ensures
