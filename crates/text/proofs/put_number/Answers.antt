-- `put_number` writes a number in base ten: where its digits have room they are stored, else it is written digit by digit. Assumes nothing.
use mathlib.Core.Path.{◌≡◌, ap, ◌∙◌}
use Prim.Native.Nat.{ℕ}
use native.Mathlib.Omega.{arith}
use lib.ListN.{length}
use Rattle.text.specs.Writing.{digits}
use Rattle.text.proofs.Stores.{stored}
use Rattle.text.proofs.put_number.Goals as goal

pub returns-then-end-out : goal.returns-then-end-out
returns-then-end-out c =
    let same : c.in-Ok.m ≡ c.args.n = omega (arith, c.in-Ok.ensures) in
    let wide : c.width.result ≡ length (digits c.args.n) = c.width.ensures ∙ ap (λ (m : ℕ). length (digits m)) same in
    stored _ _ _ (omega arith) (omega arith) (omega arith) (omega arith) (c.store_digits.ensures ∙ ap digits same)
