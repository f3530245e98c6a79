-- `int_value` gives the integer that a number is. Assumes nothing.
use mathlib.Core.Path.{ap, ◌∙◌}
use lib.IntN.{ℤ}
use mir.Facts.{to_z-of_z}
use mir.Syntax.{w32, w128}
use mir.Val.{SFits, to_z, of_z}
use Rattle.node.specs.declared.Value.TheVariants.{Int}
use Rattle.rules.specs.Answers.{done}
use Rattle.text.proofs.Values.{int_near, int_far}
use Rattle.text.proofs.int_value.Goals as goal

pub returns-in-Ok : goal.returns-in-Ok
returns-in-Ok c =
    let wide : SFits w128 c.amount.result = record { sfits = c.amount.type_inv } in
    let fits = c.in-Ok.ensures in
    ap (λ (z : ℤ). done (Int (to_z w32 (of_z w32 z)))) fits.1
    ∙ ap (λ (z : ℤ). done (Int z)) (to_z-of_z fits.0)
    ∙ int_near _ (to_z-of_z wide ∙ c.amount.ensures) fits.0

pub returns-in-Err : goal.returns-in-Err
returns-in-Err c =
    let wide : SFits w128 c.amount.result = record { sfits = c.amount.type_inv } in
    int_far _ (to_z-of_z wide ∙ c.amount.ensures) c.in-Err.ensures
