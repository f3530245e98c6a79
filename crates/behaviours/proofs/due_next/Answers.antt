-- `due_next` gives `due_next`, by the number of the op. Assumes nothing.
use native.Mathlib.Omega.{arith}
use Rattle.node.specs.Ops.{clause_op, recv_op}
use Rattle.rules.specs.Behaviours.{instruction}
use Rattle.behaviours.proofs.Codes.{clause_count_lem}
use borrow.Author.Tests.{eq-eqb, ne_eqb}
use Rattle.behaviours.proofs.due_next.Goals as goal

pub returns-in-10 : goal.returns-in-10
unfolding instruction
returns-in-10 c =
    let o = c.args.op in
    rw (eq-eqb o.number recv_op c.in-10.is, clause_count_lem o c.in-10.is)

pub returns-in-11 : goal.returns-in-11
unfolding instruction
returns-in-11 c = rw (c.in-11.is, c.saturating_sub.ensures)

pub returns-in_default : goal.returns-in_default
unfolding instruction
returns-in_default c = rw (ne_eqb c.args.op.number recv_op (omega arith), ne_eqb c.args.op.number clause_op (omega arith))
