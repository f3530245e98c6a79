-- `clip_number` writes a number in base ten: the digits in front by a call of itself, then the last one. Assumes nothing.
use Rattle.text.proofs.Digits.{digits_one, digits_more}
use Rattle.text.proofs.Writing.{wrote_then}
use Rattle.text.proofs.+clip_number.Goals as goal

pub returns-then-n-lt10 : goal.returns-then-n-lt10
returns-then-n-lt10 t c = rw (digits_one c.args.n c.if-n-lt10.true) c.put_byte.ensures

pub returns : goal.returns
returns t c = rw (digits_more c.args.n c.if-n-lt10.false) (wrote_then c.clip_number-e.ensures c.put_byte-2.ensures)
