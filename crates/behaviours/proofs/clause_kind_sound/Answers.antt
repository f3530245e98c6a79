-- `clause_kind_sound` tests the value only where the kind has one. Assumes nothing.
use native.Mathlib.Omega.{arith}
use lib.IntN.{pos}
use borrow.Author.Tests.{ne_eqb, le-leb}
use Rattle.node.proofs.Values.{int_fits}
use Rattle.behaviours.proofs.clause_kind_sound.Goals as goal

pub returns-then-kind-ne-EXACT : goal.returns-then-kind-ne-EXACT
returns-then-kind-ne-EXACT c = rw (le-leb _ _ c.if-kind-le-LAST_KIND.true, ne_eqb _ _ c.if-kind-ne-EXACT.true, int_fits (pos 0) (record { sfits = omega arith }))
