-- `start` reads one line. Assumes nothing.
use mathlib.Core.Path.{refl}
use Rattle.plan_line.specs.Lines.{start_line}
use Rattle.plan.proofs.Lines.{start_most, line_missing, line_read}
use Rattle.plan.proofs.rest.Rest.start.Goals as goal

pub returns-in_err-line-clause-read : goal.returns-in_err-line-clause-read
returns-in_err-line-clause-read c = line_missing (start_line c.args.count c.args.last) _ _ _ _ c.from_residual.ensures.1 c.in_err-line.ensures

pub returns-clause-read : goal.returns-clause-read
returns-clause-read c = line_read (start_line c.args.count c.args.last) _ _ _ _ c.start_line.result c.in_ok-line.ensures.0 c.in_ok-line.ensures.1 refl c.at_line.ensures c.start_line.ensures

pub returns-clause-process : goal.returns-clause-process
returns-clause-process c = start_most c.args.count c.args.last _ _ c.start_line.result c.at_line.ensures c.start_line.ensures
