-- `accepted_singly` tries each step on the node that the steps before it left. Assumes nothing.
use mathlib.Core.Path.{sym, ◌∙◌, ap, refl}
use Rattle.engine.specs.Answers.{stepped_of}
use Rattle.bench_c.proofs.Singly.{singly_first, singly_more, singly_kept, singly_last}
use Rattle.bench_c.proofs.rounds.accepted_singly.Goals as goal
use Rattle.bench_c.proofs.rounds.accepted_singly.Goals.{in-Ok, in_default}

pub loop-number-init : goal.loop-number-init
loop-number-init c = singly_first

pub loop-number-preserved : goal.loop-number-preserved
loop-number-preserved c =
    let at = c.loop-number in
    elim c.match-step.branch [
      | in-Ok w ↦
          let stepped = ap (stepped_of at.node) (sym w.in-Ok.is) ∙ c.step.ensures in
          rw (w.node-is, w.accepted-is) (singly_more at.invariant c.loop-number-test.true c.step_of.ensures stepped refl)
      | in_default w ↦ rw (w.node-is, w.accepted-is) (singly_kept at.invariant c.loop-number-test.true c.step_of.ensures _ w.in_default.not-Ok c.step.ensures)
    ]

pub returns : goal.returns
returns c = singly_last c.loop-number.invariant c.loop-number-test.false
