-- `reach` loads, reads and plays. Assumes nothing.
use mathlib.Core.List.{List, map}
use mathlib.Core.Path.{refl, sym, ap, ◌∙◌}
use Prim.Native.Nat.{ℕ}
use Rattle.actions.specs.Numbers.{action_of}
use Rattle.plan.proofs.Told.{accepted_told, refused_told}
use Rattle.rules.specs.Steps.{play}
use Rattle.schedule.proofs.Told.{refusal_told}
use Rattle.schedule.specs.Reading.{refused_text}
use Rattle.controller_c.proofs.Reaches.{plan_refused, steps_refused, both_played}
use Rattle.controller_c.proofs.reach.Goals as goal

pub returns-then-is_some : goal.returns-then-is_some
returns-then-is_some c = plan_refused _ _ c.load-loaded.ensures (refused_told c.load-loaded.result.refused (sym c.is_some.ensures ∙ c.if-is_some.true))

pub returns-in_default : goal.returns-in_default
unfolding refused_text
returns-in_default c =
    let accepted = accepted_told c.load-loaded.result.refused (sym c.is_some.ensures ∙ c.if-is_some.false) in
    steps_refused _ _ c.load-loaded.ensures accepted c.in_default.ensures (refusal_told c.in_default.field-0)

pub returns : goal.returns
returns c =
    let accepted = accepted_told c.load-loaded.result.refused (sym c.is_some.ensures ∙ c.if-is_some.false) in
    let played = c.play.ensures ∙ ap (λ (l : List ℕ). play c.load-loaded.result.node (map action_of l)) c.numbers.ensures.steps in
    both_played _ _ c.load-loaded.ensures accepted c.in-Ok.ensures c.play.result refl played
