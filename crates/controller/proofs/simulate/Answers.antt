-- `simulate` tells the first refusal of the two texts, or plays. Assumes nothing.
use mathlib.Core.List.{List, map}
use mathlib.Core.Path.{refl, sym, ap, ◌∙◌}
use Prim.Native.Nat.{ℕ}
use Rattle.actions.specs.Numbers.{action_of}
use Rattle.plan.proofs.Told.{fault_told}
use Rattle.plan.specs.Rests.{refused_number, refused_line}
use Rattle.rules.specs.Steps.{play}
use Rattle.schedule.proofs.Told.{refusal_told}
use Rattle.schedule.specs.Reading.{refused_text}
use Rattle.controller.proofs.Laws.{as_text, text_load, text_steps, text_played}
use Rattle.controller.proofs.simulate.Goals as goal

pub returns-in-Some : goal.returns-in-Some
returns-in-Some c =
    let number = c.number.ensures ∙ sym (ap refused_number c.in-Some.is) in
    let line = sym (ap refused_line c.in-Some.is) in
    let text = text_load c.args.plan.now c.args.steps.now c.load-loaded.ensures number line (λ z. fault_told c.in-Some.refused.fault (sym c.number.ensures ∙ z)) in
    let x = as_text _ text (c.show.ensures.answer, c.show.ensures.buffer) in
    record { answer = x.0; buffer = x.1 }

pub returns-in-Err : goal.returns-in-Err
unfolding refused_text
returns-in-Err c =
    let e = c.in-Err.refused in
    let text = text_steps c.args.plan.now c.args.steps.now c.load-loaded.ensures (ap refused_number c.in_default.is) c.in-Err.ensures
    c.number-in-Err.ensures c.line.ensures (λ z. refusal_told e (sym c.number-in-Err.ensures ∙ z)) in
    let x = as_text _ text (c.show-in-Err.ensures.answer, c.show-in-Err.ensures.buffer) in
    record { answer = x.0; buffer = x.1 }

pub returns : goal.returns
returns c =
    let played = c.play-played.ensures ∙ ap (λ (l : List ℕ). play c.load-loaded.result.node (map action_of l)) c.numbers.ensures.steps in
    let text = text_played c.args.plan.now c.args.steps.now c.load-loaded.ensures (ap refused_number c.in_default.is) c.in-Ok.ensures c.play-played.result refl played in
    let x = as_text _ text (c.show-2.ensures.answer, c.show-2.ensures.buffer) in
    record { answer = x.0; buffer = x.1 }
