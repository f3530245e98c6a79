-- `lists` tells the last listing's length; each listing but the first is written over itself. Assumes nothing.
use Rattle.listing.specs.Answers.{list_told, list_shown}
use Rattle.bench_c.proofs.Laws.{Turn}
use Rattle.bench_c.proofs.rounds.lists.Given as goal

abbrev pub invariant-rounds : goal.invariant-rounds
invariant-rounds l =
    Turn l.rounds 0 (list_told l.n l.initial.out).length l.counter l.last × Turn l.rounds l.initial.out (list_shown l.n l.initial.out) l.counter l.out
