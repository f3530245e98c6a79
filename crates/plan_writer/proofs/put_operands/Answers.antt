-- `put_operands` writes the operands one by one. The invariant: what is left to write are those from i on. Assumes nothing.
use native.Mathlib.Omega.{arith}
use Rattle.text.proofs.Writing.{left_all}
use Rattle.plan_writer.proofs.Laws.{left_operand, operands_end}
use Rattle.plan_writer.proofs.put_operands.Goals as goal

pub loop-i-init : goal.loop-i-init
loop-i-init c = left_all _ _ _ (omega arith) (omega arith)

pub loop-i-preserved : goal.loop-i-preserved
loop-i-preserved c = left_operand _ _ c.loop-i.invariant c.operand_count-i-end.ensures c.loop-i-test.true c.operand_kind.ensures c.put_operand-e.ensures

pub shape_of-out : goal.shape_of-out
shape_of-out c = c.loop-i.invariant.same

pub returns : goal.returns
returns c = operands_end _ _ c.loop-i.invariant c.operand_count-i-end.ensures c.loop-i-test.false
