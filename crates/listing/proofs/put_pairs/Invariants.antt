-- `put_pairs` writes the pairs with their signals. The invariant: those from the next on are left. Assumes nothing.
use Rattle.text.proofs.Writing.{Left}
use Rattle.listing.proofs.Loops.{pairs_from}
use Rattle.listing.proofs.put_pairs.Given as goal

abbrev pub invariant-pairs : goal.invariant-pairs
invariant-pairs l = Left l.initial.out l.at (pairs_from l.n 0) l.out l.e (pairs_from l.n l.j)
