-- `put_processes` writes the processes with their messages. The invariant: those from the next on are left. Assumes nothing.
use mathlib.Core.Path.{◌≡◌, sym}
use Prim.Native.Nat.{◌+◌, ◌-◌, ◌*◌}
use native.Mathlib.Omega.{arith}
use Rattle.text.proofs.Writing.{wrote_as, left_all}
use Rattle.listing.proofs.Loops.{process_texts, left_process, left_processes_end}
use Rattle.listing.proofs.put_processes.Goals as goal

pub processes-init : goal.processes-init
processes-init c = left_all _ _ _ (omega arith) (omega arith)

pub processes-preserved : goal.processes-preserved
processes-preserved c =
    let wide : 16 * c.processes.i + 16 - 16 * c.processes.i ≡ 16 = omega arith in
    left_process c.args.n.now _ c.processes.invariant (omega arith) c.put_process-e.ensures
    (rw (wide, c.mail_count.ensures, c.blank.ensures) at c.put_firsts-e.ensures)

pub returns : goal.returns
returns c = wrote_as (sym (process_texts c.args.n.now)) (left_processes_end c.args.n.now _ c.processes.invariant c.processes-test.false)

pub shape_of-out : goal.shape_of-out
shape_of-out c = c.processes.invariant.same
