-- `play_steps` walks over the steps: before the first of them, one further, and at the end. Assumes nothing.
use Rattle.std.proofs.Common.{◌≡◌, ap, sym, ◌∙◌, arith}
use Rattle.rules.specs.Steps.{Outcome}
use Rattle.engine.specs.Answers.{played_of}
use Rattle.steps.specs.Walk.{begins}
use Rattle.steps.proofs.Laws.{walked_first, walked_more, walked_refused, walked_last, some_told}
use Rattle.steps.proofs.play_steps.Goals as goal

pub loop-s-init : goal.loop-s-init
unfolding begins
loop-s-init c =
    let e = c.begun-r.ensures in
    let none : c.begun-r.result.accepted ≡ 0 = ap (λ (r : Outcome). r.accepted) e in
    (omega (arith, none), rw e (walked_first c.args.n c.args.steps.now))

pub loop-s-preserved : goal.loop-s-preserved
loop-s-preserved c =
    let v = c.loop-s.invariant in
    let more = walked_more c.args.steps.now c.loop-s.s-index (played_of c.loop-s.r) (played_of c.onward-r.result) c.loop-s-test.true c.onward-r.ensures v.1 in
    (omega (arith, more.0, v.0), more.1)

pub returns-then-is_some : goal.returns-then-is_some
returns-then-is_some c =
    let v = c.loop-s.invariant in
    walked_refused c.args.steps.now c.loop-s.s-index (played_of c.loop-s.r) (some_told c.loop-s.r.refusal (sym c.is_some.ensures ∙ c.if-is_some.true)) v.1

pub returns : goal.returns
returns c =
    let v = c.loop-s.invariant in
    walked_last c.args.steps.now c.loop-s.s-index (played_of c.loop-s.r) c.loop-s-test.false v.1
