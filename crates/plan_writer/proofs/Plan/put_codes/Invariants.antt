-- `put_codes` writes the behaviours one by one. The invariant: what is left to write are those from k on. Assumes nothing.
use lib.ListN.{drop}
use Rattle.text.specs.Writing.{each}
use Rattle.plan_writer.specs.Answers.{codes_of}
use Rattle.plan_writer.proofs.Laws.{code_text}
use Rattle.text.proofs.Writing.{Left}
use Rattle.plan_writer.proofs.Plan.put_codes.Given as goal

abbrev pub invariant-loop-k : goal.invariant-loop-k
invariant-loop-k l = Left l.initial.out l.at (each code_text (codes_of l.self.behaviours)) l.out l.e (each code_text (drop l.k (codes_of l.self.behaviours)))
