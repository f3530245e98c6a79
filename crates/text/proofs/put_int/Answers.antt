-- `put_int` writes an integer in base ten, with a minus where it is below 0. Assumes nothing.
use Rattle.text.proofs.Signs.{text_minus, text_no_minus}
use Rattle.text.proofs.Writing.{wrote_then}
use Rattle.text.proofs.put_int.Goals as goal

pub returns-then-z-lt0 : goal.returns-then-z-lt0
returns-then-z-lt0 c =
    rw (text_minus _ c.ranges.z c.unsigned_abs-n.ensures.value c.if-z-lt0.true) (wrote_then c.put_byte-e.ensures c.put_number.ensures)

pub returns : goal.returns
returns c = rw (text_no_minus _ c.ranges.z c.unsigned_abs-n.ensures.value c.if-z-lt0.false) c.put_number-2.ensures
