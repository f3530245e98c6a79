-- `put_operands` writes the operands one by one. The invariant: what is left to write are those from i on. Assumes nothing.
use lib.ListN.{drop}
use Rattle.node.specs.Ops.{kinds_of}
use Rattle.text.specs.Writing.{each}
use Rattle.plan_writer.proofs.Laws.{operand_in}
use Rattle.text.proofs.Writing.{Left}
use Rattle.plan_writer.proofs.put_operands.Given as goal

abbrev pub invariant-loop-i : goal.invariant-loop-i
invariant-loop-i l = Left l.initial.out l.at (each (operand_in l.op) (kinds_of l.op.number)) l.out l.e (each (operand_in l.op) (drop l.i (kinds_of l.op.number)))
