-- `put_processes` writes the processes with their messages. The invariant: those from the next on are left. Assumes nothing.
use Rattle.text.proofs.Writing.{Left}
use Rattle.listing.proofs.Loops.{processes_from}
use Rattle.listing.proofs.put_processes.Given as goal

abbrev pub invariant-processes : goal.invariant-processes
invariant-processes l = Left l.initial.out l.at (processes_from l.n 0) l.out l.e (processes_from l.n l.i)
