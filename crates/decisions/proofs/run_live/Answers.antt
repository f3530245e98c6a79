-- `run_live`: at the end the process ends with normal, else the op decides. Assumes nothing.
use mathlib.Core.Path.{◌∙◌}
use native.Mathlib.Omega.{arith}
use Rattle.decisions.proofs.Laws.{live_end, live_op}
use Rattle.decisions.proofs.run_live.Goals as goal

pub returns-then-len-p : goal.returns-then-len-p
returns-then-len-p c =
    c.becomes.ensures ∙ rw c.ended.ensures (live_end c.args.i c.args.p c.args.len c.args.op (omega arith))

pub returns : goal.returns
returns c =
    c.run_op.ensures ∙ live_op c.args.i c.args.p c.args.len c.args.op (omega arith)
