-- `Peers::has` reads one digit. Assumes nothing.
use mathlib.Core.Path.{sym}
use native.Mathlib.Omega.{arith}
use borrow.Author.Tests.{le-ltb}
use Rattle.node.proofs.Sets.{has_at, has_past}
use Rattle.node.proofs.Peers.has.Goals as goal

pub returns-then-k-lt16 : goal.returns-then-k-lt16
returns-then-k-lt16 c =
    let i = c.index-k in
    rw i.ensures (sym (has_at _ _ (rw i.ensures at c.if-k-lt16.true)))

pub returns-else-k-lt16 : goal.returns-else-k-lt16
returns-else-k-lt16 c =
    let i = c.index-k in
    rw (le-ltb _ _ c.if-k-lt16.false) (sym (has_past _ _ (omega (arith, i.ensures, c.if-k-lt16.false))))
