-- `same` compares two texts. Assumes nothing.
use mathlib.Core.Path.{◌∙◌}
use Rattle.text.proofs.Parts.{equal_lem}
use Rattle.text.proofs.same.Goals as goal

pub returns : goal.returns
returns c = c.eq.ensures ∙ equal_lem _ _
