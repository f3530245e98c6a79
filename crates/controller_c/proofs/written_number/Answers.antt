-- `written_number` tells the length, or what is told of the refusal. Assumes nothing.
use Rattle.controller_c.specs.Exported.{exported_written}
use Rattle.controller_c.proofs.written_number.Goals as goal

pub returns-in-Ok : goal.returns-in-Ok
unfolding exported_written
returns-in-Ok c = rw c.in-Ok.is

pub returns-in-Err : goal.returns-in-Err
returns-in-Err c = rw c.in-Err.is c.refusal_told.ensures
