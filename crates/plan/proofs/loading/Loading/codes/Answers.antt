-- `codes` reads the behaviours of a plan. The invariant: those that are read stand in the node, and those that are left give the answer.
-- Assumes nothing.
use mathlib.Core.Path.{ap, ◌∙◌}
use native.Mathlib.Omega.{arith}
use Rattle.node.specs.declared.Node.{Node}
use Rattle.plan.specs.Plans.{with_code, with_each}
use Rattle.plan.specs.Rests.{coded_node}
use Rattle.plan.proofs.Loops.{err_told, left_one, turn_more, turn_stop, turn_end}
use Rattle.plan.proofs.Nodes.{each_more, codes_small}
use Rattle.plan.proofs.loading.Loading.codes.Goals as goal

pub code-requires : goal.code-requires
code-requires c =
    let turn = c.loop.invariant in
    codes_small (coded_node c.args.self.now.codes) turn.xs turn.made (omega (arith, c.requires, turn.counted, c.loop-test.true))

pub returns-in_err-code : goal.returns-in_err-code
returns-in_err-code c =
    err_told _ _ _ _ c.from_residual.ensures.1
    ∙ turn_stop _ _ c.loop.invariant (with_code (coded_node c.loop.self.codes)) (left_one _ _ c.loop-test.true) (with_each with_code (coded_node c.args.self.now.codes)) c.in_err-code.ensures

pub loop-preserved : goal.loop-preserved
loop-preserved c =
    let turn = c.loop.invariant in
    turn_more _ _ turn (with_code (coded_node c.loop.self.codes)) (left_one _ _ c.loop-test.true) c.in_ok-code.ensures
    (λ code e. e ∙ ap (λ (b : Node). with_code b code) turn.made ∙ each_more with_code (coded_node c.args.self.now.codes) turn.xs code)

pub returns : goal.returns
returns c = turn_end _ _ c.loop.invariant (with_each with_code (coded_node c.args.self.now.codes)) (omega arith) c.loop.invariant.made
