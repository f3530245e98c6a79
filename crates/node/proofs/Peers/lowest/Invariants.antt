-- `Peers::lowest` finds the first digit: the loop keeps that the digits that are left give the answer. Assumes nothing.
use mathlib.Core.Path.{◌≡◌}
use Prim.Native.Nat.{◌-◌}
use lib.ListN.{drop}
use Rattle.node.specs.Sets.{bits_of, first_from, lowest_peer}
use Rattle.node.proofs.Peers.lowest.Given as goal

abbrev pub invariant-loop-k : goal.invariant-loop-k
invariant-loop-k l = lowest_peer l.self ≡ first_from l.k (drop (l.k - 1) (bits_of l.self))
