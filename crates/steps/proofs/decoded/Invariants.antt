-- `decoded` makes the steps that the numbers stand for. Assumes nothing.
use mathlib.Core.Path.{◌≡◌}
use lib.ListN.{length}
use Rattle.steps.proofs.Laws.{Made}
use Rattle.steps.proofs.decoded.Given as goal

abbrev pub invariant-loop-i : goal.invariant-loop-i
invariant-loop-i l = (length l.steps ≡ 4096) × Made l.numbers l.steps l.i
