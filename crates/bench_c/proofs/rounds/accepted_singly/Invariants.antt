-- `accepted_singly` tries each step on the node that the steps before it left. Assumes nothing.
use Rattle.bench_c.proofs.Singly.{Singly}
use Rattle.bench_c.proofs.rounds.accepted_singly.Given as goal

abbrev pub invariant-loop-number : goal.invariant-loop-number
invariant-loop-number l = Singly l.initial.node l.numbers l.node l.accepted l.number-index
