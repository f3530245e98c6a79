-- `read` gives the steps of a text. The invariant: the lines before the rest are steps, and those are stored. Assumes nothing.
use Rattle.schedule.proofs.Lines.{So}
use Rattle.schedule.proofs.read.Given as goal

abbrev pub invariant-loop-line : goal.invariant-loop-line
invariant-loop-line l = So l.text l.steps l.count l.line-iterator.rest.now
