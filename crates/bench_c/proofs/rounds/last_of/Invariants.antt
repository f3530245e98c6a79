-- `last_of` does a work that tells the same each time. Assumes nothing.
use mathlib.Core.Path.{◌≡◌}
use Prim.Native.Nat.{ℕ}
use Rattle.bench_c.proofs.Laws.{Turn}
use Rattle.bench_c.proofs.rounds.last_of.Given as goal

abbrev pub invariant-rounds : goal.invariant-rounds
invariant-rounds g l = (x : ℕ) → ((r : ℕ) → goal.F-post g l.work r → r ≡ x) → Turn l.rounds 0 x l.counter l.last
