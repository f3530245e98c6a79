-- `clip_number` writes a number in base ten: the digits in front by a call of itself, then the last one. The measure is the number.
-- Assumes nothing.
use Rattle.text.proofs.+clip_number.Given as goal

abbrev pub decreases-clip_number : goal.decreases-clip_number
decreases-clip_number l = l.n
