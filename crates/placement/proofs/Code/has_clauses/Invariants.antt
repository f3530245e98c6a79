-- `Code::has_clauses` tests the ops behind a recv. The loop keeps that those that are left give the answer. Assumes nothing.
use mathlib.Core.Path.{◌≡◌}
use Prim.Native.Nat.{◌+◌}
use lib.ListN.{drop}
use Rattle.rules.specs.Behaviours.{has_clauses}
use Rattle.placement.specs.Read.{code_of}
use Rattle.placement.proofs.Laws.{clauses_from}
use Rattle.placement.proofs.Code.has_clauses.Given as goal

abbrev pub invariant-loop-i : goal.invariant-loop-i
invariant-loop-i l =
    has_clauses l.n (drop (l.t + 1) (code_of l.self)) ≡ clauses_from l.self.len l.self.ops.now l.self.k l.t l.n l.i
