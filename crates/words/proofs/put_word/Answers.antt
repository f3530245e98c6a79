-- `put_word` writes the letters of a number, the first first. The invariant: what is left to write are the letters of what is left of it.
-- Assumes nothing.
use native.Mathlib.Omega.{arith}
use Rattle.text.proofs.Writing.{left_all}
use Rattle.words.proofs.Letters.{left_letter, left_letters_end}
use Rattle.words.proofs.put_word.Goals as goal

pub loop-left-init : goal.loop-left-init
loop-left-init c = left_all _ _ _ (omega arith) (omega arith)

pub loop-left-preserved : goal.loop-left-preserved
loop-left-preserved c =
    let turn = c.loop-left in
    let test = c.loop-left-test in
    left_letter _ turn.invariant test.true c.put_byte-e.ensures

pub shape_of-out : goal.shape_of-out
shape_of-out c = c.loop-left.invariant.same

pub returns : goal.returns
returns c = left_letters_end _ c.loop-left.invariant c.loop-left-test.false
