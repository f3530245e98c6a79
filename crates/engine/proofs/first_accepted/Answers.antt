-- The first of the possible steps that would be accepted, by the loop that looks. Assumes nothing.
use mathlib.Core.Path.{◌≡◌, refl, sym, ◌∙◌, ap}
use Prim.Native.Nat.{ℕ}
use native.Mathlib.Omega.{arith}
use mathlib.Core.List.{List}
use lib.ListN.{length}
use Rattle.actions.specs.Numbers.{decode, possible_numbers}
use Rattle.actions.proofs.AllSteps.{numbers_count}
use Rattle.node.specs.declared.Step.{Step}
use Rattle.std.specs.Prelude.{Option, Ok}
use Rattle.engine.specs.Answers.{suggestion_of}
use Rattle.engine.proofs.Calls.{offers_it, offers_none}
use Rattle.engine.proofs.first_accepted.Goals as goal

count : (l : List ℕ) → l ≡ possible_numbers → length l ≡ 288
count l e = ap length e ∙ sym numbers_count

pub returns : goal.returns
returns c =
    let numbers = c.possible_numbers-numbers in
    let looked = c.core-r in
    let there = c.in_ok-number.ensures.lookup.3 in
    let all = count numbers.result numbers.ensures in
    let below = there.0 in
    offers_it _ numbers.result numbers.ensures looked.result.accepted (looked.ensures.accepted_value refl) _ (omega (arith, all, below))
    (c.step_of.ensures ∙ ap decode (there.1 0))

pub returns-in_err-number : goal.returns-in_err-number
returns-in_err-number c =
    let numbers = c.possible_numbers-numbers in
    let looked = c.core-r in
    let all = count numbers.result numbers.ensures in
    let past = c.in_err-number.ensures.lookup.3 in
    ap (λ (x : Option Step). suggestion_of (Ok x)) c.from_residual.ensures
    ∙ offers_none _ numbers.result numbers.ensures looked.result.accepted (looked.ensures.accepted_value refl) (omega (arith, all, past))
