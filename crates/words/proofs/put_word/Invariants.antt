-- `put_word` writes the letters of a number, the first first. The invariant: what is left to write are the letters of what is left of it.
-- Assumes nothing.
use Rattle.text.proofs.Writing.{Left}
use Rattle.words.specs.Words.{letters}
use Rattle.words.proofs.put_word.Given as goal

abbrev pub invariant-loop-left : goal.invariant-loop-left
invariant-loop-left l = Left l.initial.out l.at (letters l.code) l.out l.e (letters l.left)

abbrev pub decreases-loop-left : goal.decreases-loop-left
decreases-loop-left l = l.left
