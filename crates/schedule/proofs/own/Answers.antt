-- `own` gives what follows `run=` or `timeout=`: one number. Assumes nothing.
use mathlib.Core.Path.{refl, ap, ◌∙◌}
use Rattle.rules.specs.Answers.{done}
use Rattle.schedule.specs.Reading.{own_of, line_of}
use Rattle.schedule.proofs.Lines.{pack_first, pack_done}
use Rattle.schedule.proofs.own.Goals as goal

pub returns-in_err-owner : goal.returns-in_err-owner
unfolding own_of
returns-in_err-owner c = ap line_of c.from_residual.ensures ∙ pack_first _ _ _ c.in_err-owner.ensures

pub returns : goal.returns
unfolding own_of
returns c = ap done c.packed.ensures ∙ pack_done _ _ _ c.in_ok-owner.ensures refl
