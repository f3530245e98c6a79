-- `show` tells the length of a text that the buffer holds, and 30 of one that it does not. Assumes nothing.
use Rattle.listing.proofs.Laws.{told_by}
use Rattle.controller.proofs.show.Goals as goal

pub returns-clause-answer : goal.returns-clause-answer
returns-clause-answer g c = rw (← c.ok_or.ensures.value) at (told_by _ _ c.fill.ensures.answer)
