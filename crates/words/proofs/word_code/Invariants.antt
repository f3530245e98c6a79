-- `word_code` gives the number of a word. The invariant: the letters behind those that are left give the number so far. Assumes nothing.
use Rattle.words.proofs.Words.{Read}
use Rattle.words.proofs.word_code.Given as goal

abbrev pub invariant-loop-b : goal.invariant-loop-b
invariant-loop-b l = Read l.word l.b-iterator.iter.rest.now l.code
