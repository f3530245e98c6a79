-- `busy_from` finds the first pair with a signal in flight. The invariant: there is none before j. Assumes nothing.
use Prim.Native.Nat.{◌-◌, ◌≤◌}
use Rattle.soundness.specs.Parts.{Quiet}
use Rattle.soundness.proofs.busy_from.Given as goal

abbrev pub invariant-loop-j : goal.invariant-loop-j
invariant-loop-j l = (l.from ≤ l.j) × Quiet l.counts l.from l.j

abbrev pub decreases-loop-j : goal.decreases-loop-j
decreases-loop-j l = 256 - l.j
