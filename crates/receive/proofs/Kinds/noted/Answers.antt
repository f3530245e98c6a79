-- `Kinds::noted` joins the digit of the clause's kind. Assumes nothing.
use mathlib.Core.Path.{refl}
use native.Mathlib.Omega.{arith}
use Rattle.receive.proofs.KindSets.{noted_exact, noted_kind_lem, noted_past}
use Rattle.receive.proofs.Kinds.noted.Goals as goal

pub returns-then-kind-eq-EXACT : goal.returns-then-kind-eq-EXACT
returns-then-kind-eq-EXACT c =
    let a = c.args in
    noted_exact a.self a.c _ _ c.if-kind-eq-EXACT.true c.kind.ensures (omega arith)

pub returns-then-kind-lt8 : goal.returns-then-kind-lt8
returns-then-kind-lt8 c =
    let a = c.args in
    let below = c.if-kind-lt8.true in
    noted_kind_lem a.self a.c _ _ c.if-kind-eq-EXACT.false (omega (arith, below)) refl (omega arith)

pub returns : goal.returns
returns c =
    let a = c.args in
    let past = c.if-kind-lt8.false in
    noted_past a.self a.c c.if-kind-eq-EXACT.false (omega (arith, past))
