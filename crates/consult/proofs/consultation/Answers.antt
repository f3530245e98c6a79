-- `consultation` looks at 31 before the process. Assumes nothing.
use mathlib.Core.Path.{sym, ◌∙◌}
use Rattle.consult.proofs.Recvs.{told_31}
use Rattle.consult.proofs.consultation.Goals as goal

pub returns : goal.returns
returns c = told_31 _ _ (sym c.sound.ensures ∙ c.if-sound.false)
