-- `times` counts the rounds in which a test holds that says the same each time. Assumes nothing.
use mathlib.Core.Bool.{Bool}
use mathlib.Core.Path.{◌≡◌}
use Prim.Native.Nat.{◌≤◌}
use Rattle.bench_c.proofs.Laws.{Said}
use Rattle.bench_c.proofs.rounds.times.Given as goal

abbrev pub invariant-rounds : goal.invariant-rounds
invariant-rounds g l = (l.said ≤ l.counter) × ((b : Bool) → ((r : Bool) → goal.F-post g l.test r → r ≡ b) → Said l.rounds b l.counter l.said)
