-- `step` is a schedule of one step. Assumes nothing.
use mathlib.Core.Path.{refl, sym, ◌∙◌}
use Rattle.rules.specs.Steps.{meaning, step}
use Rattle.engine.proofs.Calls.{stays, step_31, step_played}
use Rattle.engine.proofs.step.Goals as goal

pub returns-in-None : goal.returns-in-None
returns-in-None c =
    let stop = c.core.result in
    step_played c.args.n c.args.s _ c.encode.ensures.result_value (sym c.sound.ensures ∙ c.if-sound.true)
    (record { node = c.core.new.node; refusal = stop.refusal; accepted = stop.accepted }) (c.core.ensures.result_value refl) c.in-None.is

pub returns-in-Some : goal.returns-in-Some
returns-in-Some c =
    let stop = c.core.result in
    stays c.args.n c.core.new.node c.in-Some.refusal (step c.args.n (meaning c.args.s))
    (step_played c.args.n c.args.s _ c.encode.ensures.result_value (sym c.sound.ensures ∙ c.if-sound.true)
    (record { node = c.core.new.node; refusal = stop.refusal; accepted = stop.accepted }) (c.core.ensures.result_value refl) c.in-Some.is)

pub returns : goal.returns
returns c = step_31 c.args.n (meaning c.args.s) (sym c.sound.ensures ∙ c.if-sound.false)
