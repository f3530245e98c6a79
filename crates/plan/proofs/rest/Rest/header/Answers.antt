-- `header` reads one line. Assumes nothing.
use mathlib.Core.Path.{refl}
use Rattle.plan_line.specs.Lines.{header_line}
use Rattle.plan.proofs.Lines.{line_missing, line_read}
use Rattle.plan.proofs.rest.Rest.header.Goals as goal

pub returns-in_err-line : goal.returns-in_err-line
returns-in_err-line c = line_missing header_line _ _ _ _ c.from_residual.ensures.1 c.in_err-line.ensures

pub returns : goal.returns
returns c = line_read header_line _ _ _ _ c.header_line.result c.in_ok-line.ensures.0 c.in_ok-line.ensures.1 refl c.at_line.ensures c.header_line.ensures
