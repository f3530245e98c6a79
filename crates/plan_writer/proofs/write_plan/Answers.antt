-- `write_plan` tests first, then looks at the room. Assumes nothing.
use Rattle.listing.proofs.Laws.{told_by}
use Rattle.plan_writer.proofs.Answers.{write_allowed, write_refused}
use Rattle.plan_writer.proofs.write_plan.Goals as goal

pub returns-then-not-plan_sound : goal.returns-then-not-plan_sound
returns-then-not-plan_sound c =
    let told = write_refused _ _ c.args.out.now c.plan_sound.ensures c.if-not-plan_sound.true in
    record { answer = told.0; buffer = told.1 }

pub returns : goal.returns
returns c =
    let answer = rw (← c.ok_or.ensures.value) at (told_by _ _ c.fill.ensures.answer) in
    let told = write_allowed _ _ c.args.out.now c.plan_sound.ensures c.if-not-plan_sound.false (answer, c.fill.ensures.buffer) in
    record { answer = told.0; buffer = told.1 }
