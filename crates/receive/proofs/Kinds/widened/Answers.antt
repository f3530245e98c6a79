-- `Kinds::widened` gives all five kinds where the digit of `any` is there. Assumes nothing.
use native.Mathlib.Omega.{arith}
use Rattle.receive.proofs.KindSets.{widened_any, widened_kept}
use Rattle.receive.proofs.Kinds.widened.Goals as goal

pub returns-then-self-eq1 : goal.returns-then-self-eq1
returns-then-self-eq1 c = widened_any c.args.self c.if-self-eq1.true (omega arith)

pub returns : goal.returns
returns c = widened_kept c.args.self c.if-self-eq1.false
