-- `Peers::with` adds a digit that is not there. Assumes nothing.
use mathlib.Core.Bool.{false}
use mathlib.Core.Path.{◌≡◌, sym, ◌∙◌}
use Prim.Native.Nat.{◌-◌, ◌<◌}
use native.Mathlib.Omega.{arith}
use Rattle.node.specs.Sets.{has}
use Rattle.node.proofs.Sets.{with_past, with_there, with_new, new_fits, shifted}
use Rattle.node.proofs.Peers.with.Goals.{then-k-ge16-via-then-k-ge16, then-k-ge16-via-else-k-ge16+then-has}
use Rattle.node.proofs.Peers.with.Goals as goal

pub returns-then-k-ge16 : goal.returns-then-k-ge16
returns-then-k-ge16 c =
    let i = c.index-k in
    elim c.then-k-ge16.branch [
      | then-k-ge16-via-then-k-ge16 w ↦ sym (with_past _ _ (omega (arith, i.ensures, w.if-k-ge16.true)))
      | then-k-ge16-via-else-k-ge16+then-has w ↦ sym (with_there _ _ (sym w.has.ensures ∙ w.if-has.true))
    ]

pub overflow_add-result : goal.overflow_add-result
overflow_add-result c =
    let i = c.index-k in
    let low : c.args.j.0 - 1 < 16 = omega (arith, i.ensures, c.if-k-ge16.false) in
    let none : has c.args.self c.args.j.0 ≡ false = sym c.has.ensures ∙ c.if-has.false in
    record { fits = rw (i.ensures, shifted (c.args.j.0 - 1) low) (new_fits _ _ low c.well_formed.0.1.1.0.1 none) }

pub returns : goal.returns
returns c =
    let i = c.index-k in
    let low : c.args.j.0 - 1 < 16 = omega (arith, i.ensures, c.if-k-ge16.false) in
    rw (i.ensures, shifted (c.args.j.0 - 1) low) (sym (with_new _ _ low (sym c.has.ensures ∙ c.if-has.false)))
