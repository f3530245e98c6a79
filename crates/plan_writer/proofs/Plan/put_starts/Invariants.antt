-- `put_starts` writes the starts one by one. The invariant: what is left to write are those from k on. Assumes nothing.
use lib.ListN.{drop}
use Rattle.node.specs.Starts.{starts_in}
use Rattle.text.specs.Writing.{each}
use Rattle.plan_writer.proofs.Laws.{start_text}
use Rattle.text.proofs.Writing.{Left}
use Rattle.plan_writer.proofs.Plan.put_starts.Given as goal

abbrev pub invariant-loop-k : goal.invariant-loop-k
invariant-loop-k l = Left l.initial.out l.at (each start_text (starts_in l.self.starts)) l.out l.e (each start_text (drop l.k (starts_in l.self.starts)))
