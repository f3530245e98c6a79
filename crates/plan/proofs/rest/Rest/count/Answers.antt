-- `count` reads one line. Assumes nothing.
use mathlib.Core.Path.{refl}
use Rattle.plan_line.specs.Lines.{count_line}
use Rattle.plan.proofs.Lines.{count_most, line_missing, line_read}
use Rattle.plan.proofs.rest.Rest.count.Goals as goal

pub returns-in_err-line-clause-read : goal.returns-in_err-line-clause-read
returns-in_err-line-clause-read c = line_missing (count_line c.args.key.now c.args.low c.args.high) _ _ _ _ c.from_residual.ensures.1 c.in_err-line.ensures

pub returns-clause-read : goal.returns-clause-read
returns-clause-read c =
    line_read (count_line c.args.key.now c.args.low c.args.high) _ _ _ _ c.count_line.result c.in_ok-line.ensures.0 c.in_ok-line.ensures.1 refl c.at_line.ensures c.count_line.ensures

pub returns-clause-most : goal.returns-clause-most
returns-clause-most c = count_most c.args.key.now c.args.low c.args.high _ _ c.count_line.result c.at_line.ensures c.count_line.ensures
