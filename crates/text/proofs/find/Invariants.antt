-- `find` gives the first place of a byte. The invariant: the bytes from k on give the place. Assumes nothing.
use mathlib.Core.Path.{◌≡◌}
use Prim.Native.Nat.{◌+◌}
use lib.ListN.{drop}
use Rattle.text.specs.Parts.{before}
use Rattle.text.proofs.find.Given as goal

abbrev pub invariant-loop-k : goal.invariant-loop-k
invariant-loop-k l = l.k + before l.byte (drop l.k l.s) ≡ l.from + before l.byte (drop l.from l.s)
