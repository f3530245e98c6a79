-- `sound` gives `sound`: behaviours, then each process with its mailbox, then each row in flight. The loops keep that what is left gives the answer.
-- Assumes nothing.
use mathlib.Core.Bool.{true, ◌&&◌}
use Prim.Native.Nat.{◌-◌, ◌<◌}
use Rattle.std.specs.Option.{unwrap_or}
use Rattle.std.specs.Prelude.{IfSome}
use Rattle.rules.specs.Nodes.{sound as sound_of}
use Rattle.soundness.proofs.Parts.{mail_blocks, row_blocks}
use Rattle.soundness.proofs.Walk.{Due, behind}
use Rattle.soundness.proofs.sound.Given as goal

abbrev pub invariant-loop-i : goal.invariant-loop-i
invariant-loop-i l = Due (mail_blocks l.fn.n) (behind (row_blocks l.fn.n) 0 && true) (sound_of l.fn.n) l.i

abbrev pub invariant-loop-next : goal.invariant-loop-next
invariant-loop-next l = record {
  left : Due (row_blocks l.fn.n) true (sound_of l.fn.n) (unwrap_or l.next 256);
  inside : IfSome l.next (λ k. k < 256);
}

abbrev pub decreases-loop-next : goal.decreases-loop-next
decreases-loop-next l = 256 - unwrap_or l.next 256
