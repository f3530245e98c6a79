-- `Node::starts` puts the live processes into a row. The invariant: those before k are in it. Assumes nothing.
use mathlib.Core.Path.{◌≡◌}
use lib.ListN.{take}
use Rattle.node.specs.Starts.{live_from, row_of}
use Rattle.node.proofs.Node.starts.Given as goal

abbrev pub invariant-loop-k : goal.invariant-loop-k
invariant-loop-k l = l.row ≡ row_of (live_from 1 (take l.k l.fn.self.processes))
