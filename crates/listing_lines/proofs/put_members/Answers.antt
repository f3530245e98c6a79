-- `put_members` writes the members of a set. The invariant: what is left to write are the members from k + 1 on,
-- behind `comma` before the next one. Assumes nothing.
use native.Mathlib.Omega.{arith}
use Rattle.text.proofs.Writing.{left_all, ◌▸◌}
use Rattle.listing_lines.proofs.Laws.{with_commas_lem, left_absent, left_member, left_members_end}
use Rattle.listing_lines.proofs.put_members.Goals as goal

pub loop-k-init : goal.loop-k-init
loop-k-init c = rw with_commas_lem (left_all _ _ _ (omega arith) (omega arith))

pub loop-k-preserved-then-not-has : goal.loop-k-preserved-then-not-has
loop-k-preserved-then-not-has c = left_absent _ _ _ c.loop-k.invariant c.loop-k-test.true c.if-not-has.ensures

pub loop-k-preserved : goal.loop-k-preserved
loop-k-preserved c =
    left_member _ _ _ c.loop-k.invariant c.loop-k-test.true c.if-not-has.ensures (c.put_bytes-e.ensures ▸ c.put_number-e.ensures)

pub shape_of-out : goal.shape_of-out
shape_of-out c = c.loop-k.invariant.same

pub returns : goal.returns
returns c = left_members_end _ _ _ c.loop-k.invariant c.loop-k-test.false
