-- `put_pairs` writes the pairs with their signals. The invariant: those from the next on are left. Assumes nothing.
use mathlib.Core.Path.{◌≡◌, sym}
use Prim.Native.Nat.{◌+◌, ◌-◌, ◌*◌}
use native.Mathlib.Omega.{arith}
use Rattle.text.proofs.Writing.{wrote_as, left_all}
use Rattle.listing.proofs.Loops.{pair_texts, left_pair, left_no_pair, left_pairs_end}
use Rattle.listing.proofs.put_pairs.Goals as goal

pub pairs-init : goal.pairs-init
pairs-init c = left_all _ _ _ (omega arith) (omega arith)

pub pairs-preserved-then-in_flight-eq0 : goal.pairs-preserved-then-in_flight-eq0
pairs-preserved-then-in_flight-eq0 c = left_no_pair c.args.n.now _ c.pairs.invariant (omega arith) c.if-in_flight-eq0.true

pub pairs-preserved : goal.pairs-preserved
pairs-preserved c =
    let wide : 4 * c.pairs.j + 4 - 4 * c.pairs.j ≡ 4 = omega arith in
    left_pair c.args.n.now _ c.pairs.invariant (omega arith) c.if-in_flight-eq0.false c.put_flight-e.ensures
    (rw (wide, c.blank.ensures) at c.put_firsts-e.ensures)

pub returns : goal.returns
returns c = wrote_as (sym (pair_texts c.args.n.now)) (left_pairs_end c.args.n.now _ c.pairs.invariant c.pairs-test.false)

pub shape_of-out : goal.shape_of-out
shape_of-out c = c.pairs.invariant.same
