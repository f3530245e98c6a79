-- `read` gives `load_of`. Assumes nothing.
use mathlib.Core.Path.{◌∙◌}
use Rattle.plan.proofs.Whole.{err_read, load_long, load_stop, load_misplaced, load_placed}
use Rattle.plan.proofs.read.Goals as goal

pub returns-then-text-gt16384 : goal.returns-then-text-gt16384
returns-then-text-gt16384 c = load_long _ c.if-text-gt16384.true

pub returns-in-Some : goal.returns-in-Some
returns-in-Some c = load_misplaced _ c.if-text-gt16384.false c.in_ok-told.ensures c.misplaced.ensures c.in-Some.is

pub returns-in-None : goal.returns-in-None
returns-in-None c = load_placed _ c.if-text-gt16384.false c.in_ok-told.ensures c.misplaced.ensures c.in-None.is

pub returns-in_err-told : goal.returns-in_err-told
returns-in_err-told c = err_read _ _ c.from_residual.ensures.1 ∙ load_stop _ c.if-text-gt16384.false c.in_err-told.ensures
