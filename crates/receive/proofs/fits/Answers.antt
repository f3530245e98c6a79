-- `fits`: by the clause's kind. Assumes nothing.
use mathlib.Core.Path.{◌≡◌, ◌∙◌, ap}
use native.Mathlib.Omega.{arith}
use lib.Dec.{eqb}
use Rattle.node.specs.Values.{exact_kind, any_kind}
use Rattle.receive.proofs.Laws.{fits_exact, fits_any, fits_kind}
use Rattle.receive.proofs.fits.Goals as goal

pub returns-in-0 : goal.returns-in-0
returns-in-0 c = c.is_value.ensures ∙ fits_exact c.args.c c.args.m c.in-0.is

pub returns-in-1 : goal.returns-in-1
returns-in-1 c = fits_any c.args.c c.args.m c.in-1.is

pub returns-in_default : goal.returns-in_default
returns-in_default c =
    let small = c.args.c.small in
    let exact : small ≡ exact_kind → ⊥ = λ e. omega (arith, e) in
    let any : small ≡ any_kind → ⊥ = λ e. omega (arith, e) in
    ap (eqb small) c.kind.ensures ∙ fits_kind c.args.c c.args.m exact any
