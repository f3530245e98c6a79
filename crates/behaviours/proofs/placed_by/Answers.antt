-- `placed_by` gives `placed_by`, by the number of the op. Assumes nothing.
use native.Mathlib.Omega.{arith}
use Rattle.node.specs.Ops.{after_op, clause_op}
use Rattle.rules.specs.Behaviours.{instruction}
use Rattle.behaviours.specs.Codes.{placed_by}
use borrow.Author.Tests.{ne_eqb}
use Rattle.behaviours.proofs.placed_by.Goals as goal

pub returns-in-11 : goal.returns-in-11
unfolding placed_by instruction
returns-in-11 c = rw c.in-11.is

pub returns-in-18 : goal.returns-in-18
unfolding placed_by instruction
returns-in-18 c = rw c.in-18.is

pub returns-in_default : goal.returns-in_default
unfolding placed_by instruction
returns-in_default c = rw (ne_eqb c.args.op.number clause_op (omega arith), ne_eqb c.args.op.number after_op (omega arith))
