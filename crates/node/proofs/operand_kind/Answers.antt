-- `operand_kind` reads what the op's shape has at k. Assumes nothing.
use borrow.Author.Rules.{rules}
use Rattle.node.specs.Ops.{operand_kind}
use Rattle.node.proofs.operand_kind.Goals as goal

pub returns : goal.returns
unfolding operand_kind
returns c = rw (← c.shape_of.ensures, ← c.operands-kinds.ensures) (search rules)
