-- Nodes (document 01, "The node"), and where the parts of one stand.
--   no_op no_process   what is read past the end of an array; no rule reads there in a sound node
--   pair j i         the number of the ordered pair from j to i
--   mail_shelf n      the mailboxes of n, a block of 16 slots to a process
--   flight_shelf n    its signals in flight, a block of 4 cells to a pair
--   blank_node        the node of a refused load
use Rattle.std.specs.Prelude.{◌∷◌, ℕ, ◌+◌, ◌-◌, ◌*◌, replicate}
use Rattle.node.specs.declared.Cell.{Cell}
use Rattle.node.specs.declared.Node.{Node}
use Rattle.node.specs.declared.Op.{Op}
use Rattle.node.specs.declared.Process.{Process}
use Rattle.node.specs.declared.Slot.{Slot}
use Rattle.node.specs.Blocks.{Shelf}
use Rattle.node.specs.Mailboxes.{no_message}
use Rattle.node.specs.Ops.{stop_op}
use Rattle.node.specs.Processes.{unborn}
use Rattle.node.specs.Rows.{no_signal}
use Rattle.node.specs.Values.{int_zero}

abbrev pub no_op : Op
no_op = record { number = 0; r = 0; s = 0; target = 0; small = 0; value = int_zero; process = record { 0 = 0 }; behaviour = record { 0 = 0 } }

abbrev pub no_process : Process
no_process = unborn

abbrev pub pair : ℕ → ℕ → ℕ
pair j i = 16 * (j - 1) + (i - 1)

abbrev pub mail_shelf : Node → Shelf Slot
mail_shelf n = record { cells = n.slots; counts = n.waiting }

abbrev pub flight_shelf : Node → Shelf Cell
flight_shelf n = record { cells = n.cells; counts = n.counts }

-- "its one behaviour is `stop,0`, all processes are unborn, nothing is in flight"
unfoldable pub blank_node : Node
blank_node = record {
  count = 1;
  lens = 1 ∷ replicate 7 0;
  ops = replicate 256 stop_op;
  processes = replicate 16 unborn;
  waiting = replicate 16 0;
  slots = replicate 256 no_message;
  counts = replicate 256 0;
  cells = replicate 1024 no_signal;
}
