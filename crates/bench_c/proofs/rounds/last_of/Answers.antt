-- `last_of` does a work that tells the same each time. Assumes nothing.
use Rattle.bench_c.proofs.Laws.{turn_first, turn_next, turn_last}
use Rattle.bench_c.proofs.rounds.last_of.Goals as goal

pub rounds-init : goal.rounds-init
rounds-init g c = λ x h. turn_first

pub rounds-preserved : goal.rounds-preserved
rounds-preserved g c = λ x h. turn_next (c.rounds.invariant x h) c.rounds-test.true (h _ c.work-last.ensures)

pub returns : goal.returns
returns g c = λ x h. turn_last (c.rounds.invariant x h) c.rounds-test.false
