-- `line` takes a line from the front of what is left. Assumes nothing.
use mathlib.Core.Path.{refl, ap}
use Prim.Native.Nat.{◌+◌}
use native.Mathlib.Nat.{sub-zero}
use native.Mathlib.Omega.{arith}
use Rattle.text.specs.Parts.{Lines}
use Rattle.text.proofs.Parts.{lines_at, lines_rest, tail_part}
use Rattle.plan.proofs.rest.Rest.line.Goals as goal

pub returns-then-text-e : goal.returns-then-text-e
returns-then-text-e c =
    let text = c.args.self.now.text.now in
    (ap (λ (x : Lines). x.whole) (lines_rest text (omega arith) c.line_end-e.ensures c.if-text-e.true), c.missing.ensures)

pub returns : goal.returns
returns c =
    let text = c.args.self.now.text.now in
    let e = c.line_end-e.result in
    (rw (tail_part text (e + 1)) (rw sub-zero at (lines_at text (omega arith) c.line_end-e.ensures c.if-text-e.false)), refl)
