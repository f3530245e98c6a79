-- `put_firsts` writes the texts of the first places. The invariant: those from place k on are left. Assumes nothing.
use mathlib.Core.Path.{◌≡◌}
use native.Mathlib.Omega.{arith}
use lib.ListN.{get_or}
use Rattle.std.proofs.lemmas.Grind.{common_steps}
use Rattle.text.proofs.Writing.{left_all}
use Rattle.listing.proofs.Loops.{left_place, left_places_end}
use Rattle.listing.proofs.put_firsts.Goals as goal

pub loop-k-init : goal.loop-k-init
loop-k-init g c = left_all _ _ _ (omega arith) (omega arith)

pub loop-k-preserved : goal.loop-k-preserved
loop-k-preserved g c =
    let same : c.unwrap_or.result.now ≡ get_or c.args.places.now c.loop-k.k c.args.blank.now = grind (arith, common_steps) in
    left_place g.T.Text.text c.args.blank.now c.args.places.now _ _ c.loop-k.invariant c.loop-k-test.true (rw same at c.put-e.ensures)

pub returns : goal.returns
returns g c = left_places_end g.T.Text.text _ _ _ _ c.loop-k.invariant c.loop-k-test.false

pub shape_of-out : goal.shape_of-out
shape_of-out g c = c.loop-k.invariant.same
