-- What the code's answers tell, as a record.
--   told_by e      the record of a decision of the code
--   told_of p a    the record of what is decided of process p: a refusal leaves it, else the decision's
use Rattle.std.specs.Prelude.{false, Result, Ok, Err}
use Rattle.std.proofs.Math.Option.{none, some}
use Rattle.node.specs.declared.Process.{Process}
use Rattle.node.specs.declared.Refusal.{Refusal}
use Rattle.node.specs.Processes.{fresh}
use Rattle.node.specs.Refusals.{refusal_number}
use Rattle.node.specs.Values.{pid}
use Rattle.decisions.specs.declared.Decision.{Decision as Decided}
use Rattle.decisions.specs.declared.Deed.{Deed}
use Rattle.decisions.specs.declared.Deed.TheVariants.{Nothing, Searches, Joins, Sends, Spawns}
use Rattle.decisions.specs.Records.{Decision}
use Rattle.decisions.specs.Answers.{tells, refusing, becoming, searching, sending_to}

-- of a process that is brought to life its number and its behaviour are told
abbrev pub done_by : Process → Deed → Decision
done_by p Nothing = becoming p
done_by p Searches = searching p
done_by p (Joins x) = tells 0 p false (some x) none none
done_by p (Sends j x) = sending_to p j x
done_by p (Spawns j b) = tells 0 p false none none (some (record { number = j.0; process = fresh b (pid 0) }))

abbrev pub told_by : Decided → Decision
told_by e = done_by e.process e.deed

abbrev pub told_of : Process → Result Decided Refusal → Decision
told_of p (Err r) = refusing p (refusal_number r)
told_of p (Ok e) = told_by e
