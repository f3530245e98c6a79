-- `fill` counts a text over an empty slice, and writes it where the buffer holds it. Assumes nothing.
use mathlib.Core.Path.{◌∙◌}
use native.Mathlib.Omega.{arith}
use Rattle.text.proofs.Writing.{counted_short, counted_fits}
use Rattle.listing.proofs.Laws.{counted_nothing, fits_short, fits_whole}
use Rattle.listing.proofs.fill.Goals as goal

pub returns-then-out-put : goal.returns-then-out-put
returns-then-out-put g c =
    let x = fits_short _ _ (counted_short c.put.ensures (omega arith) c.if-out-put.true) in
    record { answer = x.0; buffer = counted_nothing _ _ c.put.ensures ∙ x.1 }

pub returns : goal.returns
returns g c =
    let wrote = rw (counted_nothing c.args.out.now (g.T.Text.text c.args.t.now) c.put.ensures) at c.put-2.ensures in
    let x = fits_whole _ _ (counted_fits c.put.ensures (omega arith) c.if-out-put.false) (omega arith) wrote in
    record { answer = x.0; buffer = x.1 }
