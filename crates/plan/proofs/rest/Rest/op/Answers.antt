-- `op` reads one line. Assumes nothing.
use mathlib.Core.Path.{refl}
use Rattle.plan_line.specs.Lines.{op_line}
use Rattle.plan.proofs.Lines.{line_missing, line_read}
use Rattle.plan.proofs.rest.Rest.op.Goals as goal

pub returns-in_err-line : goal.returns-in_err-line
returns-in_err-line c = line_missing (op_line c.args.count c.args.len) _ _ _ _ c.from_residual.ensures.1 c.in_err-line.ensures

pub returns : goal.returns
returns c = line_read (op_line c.args.count c.args.len) _ _ _ _ c.op_line.result c.in_ok-line.ensures.0 c.in_ok-line.ensures.1 refl c.at_line.ensures c.op_line.ensures
