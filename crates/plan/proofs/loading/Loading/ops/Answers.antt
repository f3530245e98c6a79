-- `ops` reads the ops of a behaviour. The invariant: those that are read stand in the node, and those that are left give the answer.
-- Assumes nothing.
use mathlib.Core.Path.{◌∙◌}
use native.Mathlib.Omega.{arith}
use Rattle.node.specs.declared.Op.{Op}
use Rattle.plan.specs.Plans.{with_ops}
use Rattle.plan.specs.Rests.{coded_node}
use Rattle.plan.proofs.Loops.{err_told, left_one, mapped_same, turn_more, turn_stop, turn_end}
use Rattle.plan.proofs.Nodes.{first_all, first_more}
use Rattle.plan.proofs.loading.Loading.ops.Goals as goal

pub returns-in_err-self : goal.returns-in_err-self
returns-in_err-self c =
    let args = c.args in
    err_told _ _ _ _ c.from_residual.ensures.1
    ∙ turn_stop _ _ c.loop-i.invariant (λ (o : Op). o) (left_one _ _ c.loop-i-test.true) (with_ops (coded_node args.self.now.codes)) (c.in_err-self.ensures ∙ mapped_same _)

pub loop-i-preserved : goal.loop-i-preserved
loop-i-preserved c =
    let turn = c.loop-i.invariant in
    turn_more _ _ turn (λ (o : Op). o) (left_one _ _ c.loop-i-test.true) (c.in_ok-self.ensures ∙ mapped_same _) (λ x e. first_more _ turn.xs turn.made e turn.counted)

pub returns : goal.returns
returns c =
    let turn = c.loop-i.invariant in
    turn_end _ _ turn (with_ops (coded_node c.args.self.now.codes)) (omega arith) (turn.made ∙ first_all (coded_node c.args.self.now.codes) turn.xs (omega (arith, turn.counted)))
