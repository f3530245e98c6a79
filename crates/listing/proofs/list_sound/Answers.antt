-- `list_sound` writes at once into a buffer that holds the longest listing, and looks at the room in any other. Assumes nothing.
use Rattle.listing.proofs.Laws.{told_by, known_counted, known_whole}
use Rattle.listing.proofs.list_sound.Goals as goal

pub returns-then-out-ge-LONGEST : goal.returns-then-out-ge-LONGEST
returns-then-out-ge-LONGEST c =
    let x = known_whole _ _ _ c.if-out-ge-LONGEST.true c.put.ensures in
    record { answer = x.0; buffer = x.1 }

pub returns : goal.returns
returns c =
    let told = rw (← c.ok_or.ensures.value) at (told_by _ _ c.fill.ensures.answer) in
    let x = known_counted _ _ _ c.if-out-ge-LONGEST.false (told, c.fill.ensures.buffer) in
    record { answer = x.0; buffer = x.1 }
