-- `numbers_read` lends what an accepted text has, and nothing of a refused one. Assumes nothing.
use mathlib.Core.Path.{refl}
use Rattle.schedule.specs.Reading.{refused_text}
use Rattle.bench_c.proofs.numbers_read.Goals as goal

pub returns-in-Err-clause-steps : goal.returns-in-Err-clause-steps
unfolding refused_text
returns-in-Err-clause-steps c = rw c.in-Err.is refl

pub returns-in-Err-clause-count : goal.returns-in-Err-clause-count
unfolding refused_text
returns-in-Err-clause-count c = rw c.in-Err.is refl
