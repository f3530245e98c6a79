-- `put_code` writes the line `code=` and the ops one by one. The invariant: what is left to write are the ops from the turn's on. Assumes nothing.
use Rattle.text.proofs.Writing.{left_behind}
use Rattle.plan_writer.proofs.Laws.{code_wrote, left_op, ops_end}
use Rattle.plan_writer.proofs.put_code.Goals as goal

pub loop-op-init : goal.loop-op-init
loop-op-init c = left_behind _ c.put_number_line-e.ensures

pub loop-op-preserved : goal.loop-op-preserved
loop-op-preserved c = left_op _ _ c.loop-op.invariant c.loop-op-test.true c.put_op-e.ensures

pub returns : goal.returns
returns c = code_wrote _ c.put_number_line-e.ensures (ops_end _ _ c.loop-op.invariant c.loop-op-test.false)
