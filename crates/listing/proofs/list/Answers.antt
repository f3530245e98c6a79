-- `list` looks at soundness first. Assumes nothing.
use Rattle.listing.proofs.Listings.{list_refused, list_allowed}
use Rattle.listing.proofs.list.Goals as goal

pub returns-then-sound : goal.returns-then-sound
returns-then-sound c =
    let x = list_allowed _ _ c.sound.ensures c.if-sound.true (c.list_sound.ensures.answer, c.list_sound.ensures.buffer) in
    record { answer = x.0; buffer = x.1 }

pub returns : goal.returns
returns c = let x = list_refused _ _ c.sound.ensures c.if-sound.false in record { answer = x.0; buffer = x.1 }
