-- `refusal_told` tells 30 apart. Assumes nothing.
use Rattle.controller_c.specs.Exported.{exported_written}
use Rattle.controller_c.proofs.Answers.{told_unsound}
use Rattle.controller_c.proofs.refusal_told.Goals as goal

pub returns-in-OutputShort : goal.returns-in-OutputShort
unfolding exported_written
returns-in-OutputShort c = rw c.in-OutputShort.is

pub returns-in_default : goal.returns-in_default
returns-in_default c = told_unsound c.args.refusal c.in_default.not-OutputShort
