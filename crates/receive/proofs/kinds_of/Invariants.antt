-- `kinds_of` notes all clauses: the loop keeps that those that are left give the set. Assumes nothing.
use mathlib.Core.Path.{◌≡◌}
use lib.ListN.{drop}
use Rattle.receive.specs.Kinds.{no_kinds, noted_all}
use Rattle.receive.proofs.kinds_of.Given as goal

abbrev pub invariant-loop-clause : goal.invariant-loop-clause
invariant-loop-clause l = noted_all no_kinds l.clauses ≡ noted_all l.kinds (drop l.clause-index l.clauses)
