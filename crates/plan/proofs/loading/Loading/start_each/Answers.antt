-- `start_each` reads starts. The invariant: those that are read are started, and those that are left give the answer. Assumes nothing.
use mathlib.Core.Path.{ap, ◌∙◌}
use native.Mathlib.Omega.{arith}
use Rattle.node.specs.declared.Node.{Node}
use Rattle.node.specs.declared.ProcessNumber.{ProcessNumber}
use Rattle.plan.specs.Plans.{with_start, with_each}
use Rattle.plan_line.specs.Lines.{Start}
use Rattle.plan_line.specs.Results.{start_read as read}
use Rattle.plan.specs.Rests.{coded_node}
use Rattle.plan.proofs.Loops.{err_told, left_one, turn_more, turn_stop, turn_end}
use Rattle.plan.proofs.Nodes.{begun_more, start_read, started}
use Rattle.plan.proofs.loading.Loading.start_each.Goals as goal

pub returns-in_err-start : goal.returns-in_err-start
returns-in_err-start c =
    let turn = c.loop.invariant in
    err_told _ _ _ _ c.from_residual.ensures.1
    ∙ turn_stop _ _ turn (λ (s : Start). s) (left_one _ _ c.loop-test.true) (with_each with_start (coded_node c.args.self.now.codes))
    (c.in_err-start.ensures.read ∙ start_read _ _ _ turn.xs turn.made)

pub loop-preserved : goal.loop-preserved
loop-preserved c =
    let turn = c.loop.invariant in
    turn_more _ _ turn (λ (s : Start). s) (left_one _ _ c.loop-test.true) (c.in_ok-start.ensures.read ∙ start_read _ _ _ turn.xs turn.made)
    (λ s e. begun_more (coded_node c.args.self.now.codes) turn.xs (started (coded_node c.loop.self.codes) (read c.in_ok-start.start) c.index.ensures c.fresh.ensures) turn.made e)

pub returns : goal.returns
returns c =
    let turn = c.loop.invariant in
    turn_end _ _ turn (with_each with_start (coded_node c.args.self.now.codes)) (omega arith) (ap (λ (b : Node × ProcessNumber). b.0) turn.made)
