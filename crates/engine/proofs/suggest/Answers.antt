-- `suggest` looks at 31 before the possible steps. Assumes nothing.
use mathlib.Core.Path.{sym, ◌∙◌}
use Rattle.engine.proofs.Calls.{offer_sound, offer_31}
use Rattle.engine.proofs.suggest.Goals as goal

pub returns-then-sound : goal.returns-then-sound
returns-then-sound c = offer_sound _ (sym c.sound.ensures ∙ c.if-sound.true) c.first_accepted.ensures

pub returns : goal.returns
returns c =
    let its-sound = c.sound in
    let its-if1 = c.if-sound in
    offer_31 _ (sym its-sound.ensures ∙ its-if1.false)
