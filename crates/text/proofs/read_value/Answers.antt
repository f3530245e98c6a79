-- `read_value` gives the value that a text is: its letter decides how its number is read. Assumes nothing.
use mathlib.Core.Path.{refl, ap}
use native.Mathlib.Omega.{arith}
use Rattle.std.proofs.lemmas.Result.{err_from_is_err_and}
use Rattle.node.specs.Values.{pid}
use Rattle.node.specs.declared.Value.TheVariants.{Atom}
use Rattle.text.specs.Numbers.{malformed}
use Rattle.text.specs.Results.{value_answer}
use Rattle.text.specs.Values.{no_value, by_letter}
use Rattle.text.proofs.Values.{value_none, value_led, value_other, int_refused, ranged_refused, ranged_done}
use Rattle.text.proofs.read_value.Goals as goal

pub returns-in_ok-read_number-in-105 : goal.returns-in_ok-read_number-in-105
unfolding by_letter
returns-in_ok-read_number-in-105 c = value_led _ c.in-Some.ensures.cases (rw (c.in-105.is, ← c.in_ok-read_number-in-105.ensures) c.int_value.ensures)

pub returns-in_ok-read_ranged-in-97 : goal.returns-in_ok-read_ranged-in-97
unfolding by_letter
returns-in_ok-read_ranged-in-97 c = value_led _ c.in-Some.ensures.cases (rw c.in-97.is (ranged_done Atom c.in_ok-read_ranged-in-97.ensures))

pub returns-in_ok-read_ranged-in-112 : goal.returns-in_ok-read_ranged-in-112
unfolding by_letter
returns-in_ok-read_ranged-in-112 c = value_led _ c.in-Some.ensures.cases (rw c.in-112.is (ranged_done pid c.in_ok-read_ranged-in-112.ensures))

pub returns-in_default : goal.returns-in_default
returns-in_default c = ap value_answer (value_none _ {r = no_value malformed} c.in_default.ensures.cases refl)

pub returns-in_err-read_number-in-105 : goal.returns-in_err-read_number-in-105
unfolding by_letter
returns-in_err-read_number-in-105 c =
    let p = err_from_is_err_and c.from_residual.result c.from_residual.ensures.1 in
    rw (p.1, p.2) (value_led _ c.in-Some.ensures.cases (rw c.in-105.is (int_refused _ c.in_err-read_number-in-105.ensures)))

pub returns-in_err-read_ranged-in-97 : goal.returns-in_err-read_ranged-in-97
unfolding by_letter
returns-in_err-read_ranged-in-97 c =
    let p = err_from_is_err_and c.from_residual-in_err-read_ranged-in-97.result c.from_residual-in_err-read_ranged-in-97.ensures.1 in
    rw (p.1, p.2) (value_led _ c.in-Some.ensures.cases (rw c.in-97.is (ranged_refused Atom _ c.in_err-read_ranged-in-97.ensures)))

pub returns-in_err-read_ranged-in-112 : goal.returns-in_err-read_ranged-in-112
unfolding by_letter
returns-in_err-read_ranged-in-112 c =
    let p = err_from_is_err_and c.from_residual-in_err-read_ranged-in-112.result c.from_residual-in_err-read_ranged-in-112.ensures.1 in
    rw (p.1, p.2) (value_led _ c.in-Some.ensures.cases (rw c.in-112.is (ranged_refused pid _ c.in_err-read_ranged-in-112.ensures)))

pub returns-in_default-letter : goal.returns-in_default-letter
returns-in_default-letter c =
    value_led _ c.in-Some.ensures.cases (value_other _ (λ e. omega (arith, e)) (λ e. omega (arith, e)) (λ e. omega (arith, e)))
