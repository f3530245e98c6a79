-- The node of document 01's sample plan. Assumes nothing.
use mathlib.Core.List.{[], ◌∷◌, ◌++◌}
use Prim.Native.Nat.{ℕ}
use lib.IntN.{pos}
use lib.ListN.{replicate}
use Rattle.node.specs.declared.Node.{Node}
use Rattle.node.specs.declared.Op.{Op}
use Rattle.node.specs.declared.Process.{Process}
use Rattle.node.specs.declared.Value.{Value}
use Rattle.node.specs.declared.Value.TheVariants.{Int}
use Rattle.node.specs.Lists.{firsts}
use Rattle.node.specs.Mailboxes.{no_message}
use Rattle.node.specs.Ops.{stop_op}
use Rattle.node.specs.Processes.{unborn, fresh}
use Rattle.node.specs.Rows.{no_signal}
use Rattle.node.specs.Values.{int_zero, pid, int_kind}

unfoldable pub op_of : ℕ → ℕ → ℕ → ℕ → ℕ → Value → Op
op_of number r s target small v = record { number = number; r = r; s = s; target = target; small = small; value = v; process = record { 0 = 0 }; behaviour = record { 0 = 0 } }

abbrev pub int : ℕ → Value
int k = Int (pos k)

-- the sample plan, with processes 1 and 2 as given
unfoldable pub sample : Process → Process → Node
sample p q = record {
  count = 2;
  lens = 3 ∷ 2 ∷ replicate 6 0;
  ops = firsts stop_op 32 (op_of 0 0 0 0 0 (pid 2) ∷ op_of 0 1 0 0 0 (int 12) ∷ op_of 4 0 1 0 0 int_zero ∷ [])
      ++ firsts stop_op 32 (op_of 10 0 0 0 1 int_zero ∷ op_of 11 0 1 2 int_kind int_zero ∷ [])
      ++ replicate 192 stop_op;
  processes = p ∷ q ∷ replicate 14 unborn;
  waiting = replicate 16 0;
  slots = replicate 256 no_message;
  counts = replicate 256 0;
  cells = replicate 1024 no_signal;
}

-- as it is started
unfoldable pub started : Node
started = sample (fresh (record { 0 = 1 }) int_zero) (fresh (record { 0 = 2 }) int_zero)
