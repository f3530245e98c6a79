-- `onward` takes a play one step further. Assumes nothing.
use borrow.Author.Tests.{ne_eqb}
use Rattle.std.proofs.Common.{ap, sym, ◌∙◌, refl}
use Rattle.node.specs.Refusals.{refusal_told}
use Rattle.node.proofs.Refusals.{above_zero}
use Rattle.rules.specs.Steps.{meaning, step}
use Rattle.engine.specs.Answers.{played_of, stepped_of}
use Rattle.steps.specs.Walk.{goes_on}
use Rattle.steps.proofs.Laws.{step_numbered, some_told, none_is_told, answer_refused, answer_accepted}
use Rattle.steps.proofs.onward.Goals as goal

pub returns-then-is_some : goal.returns-then-is_some
unfolding goes_on
returns-then-is_some c = rw (ne_eqb (refusal_told c.args.p.refusal) 0 (some_told c.args.p.refusal (sym c.is_some.ensures ∙ c.if-is_some.true)))

pub returns-in-Ok : goal.returns-in-Ok
unfolding goes_on
returns-in-Ok c =
    let its-step = c.step in
    let p = played_of c.args.p in
    let a = meaning c.args.s in
    rw (none_is_told c.args.p.refusal (sym c.is_some.ensures ∙ c.if-is_some.false))
    (answer_accepted p (step p.node a) (ap (stepped_of p.node) (sym c.in-Ok.is) ∙ its-step.ensures) (step_numbered p.node a) refl)

pub returns-in-Err : goal.returns-in-Err
unfolding goes_on
returns-in-Err c =
    let its-step = c.step in
    let p = played_of c.args.p in
    rw (none_is_told c.args.p.refusal (sym c.is_some.ensures ∙ c.if-is_some.false))
    (answer_refused p (step p.node (meaning c.args.s)) (ap (stepped_of p.node) (sym c.in-Err.is) ∙ its-step.ensures) (above_zero c.in-Err.refusal))
