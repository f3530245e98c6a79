-- `plan_sound` tests the behaviours, then the starts. Assumes nothing.
use Rattle.plan_writer.proofs.Tests.{plan_refused, plan_tested}
use Rattle.plan_writer.proofs.plan_sound.Goals as goal

pub returns-then-not-behaviours_sound : goal.returns-then-not-behaviours_sound
returns-then-not-behaviours_sound c =
    let start = c.args in
    plan_refused start.behaviours start.starts c.behaviours_sound.ensures c.if-not-behaviours_sound.true

pub returns : goal.returns
returns c =
    let start = c.args in
    plan_tested start.behaviours start.starts c.behaviours_sound.ensures c.if-not-behaviours_sound.false c.starts_sound.ensures
