-- `operands` reads each operand of an op by its kind. The invariant: what is read of the op, with the kinds and the fields that are left,
-- gives the answer. Assumes nothing.
use Rattle.node.specs.Ops.{kinds_of}
use lib.ListN.{drop}
use Rattle.plan_line.specs.Ops.{FieldEnd, behind_field, op_of}
use Rattle.plan_line.proofs.Ops.{Stands}
use Rattle.plan_line.proofs.operands.Given as goal

abbrev pub invariant-loop-i : goal.invariant-loop-i
invariant-loop-i l =
    FieldEnd l.rest l.e × Stands l.count l.len (drop l.i (kinds_of l.number)) (behind_field l.e l.rest) (op_of l.count l.len l.number (behind_field l.word l.rest)) l.out_of_range l.op
