-- What a decision changes of counts, slots and cells, whether it does or not. Assumes nothing.
--   cell_at row k      the cell behind the k signals of a row, within its array whatever k is
--   searched_of k e    how many of k messages are searched
--   waiting_next k e   how many messages wait behind the decision, where k did before it and none leaves
--   sent_next k e      how many signals its row has
--   cell_next c e      what the cell holds in which a signal is sent
--   slot_next s e      what the slot holds in which a message joins
use mathlib.Core.Bool.{cond}
use Prim.Native.Nat.{ℕ, ◌+◌, ◌*◌, min}
use Rattle.decisions.specs.Records.{Decision}
use Rattle.node.specs.declared.Cell.{Cell}
use Rattle.node.specs.declared.Slot.{Slot}
use Rattle.node.specs.Mailboxes.{slot_of}
use Rattle.node.specs.Rows.{cell_of}

abbrev pub cell_at : ℕ → ℕ → ℕ
cell_at row k = min (4 * row + k) 1023

unfoldable pub searched_of : ℕ → Decision → ℕ
searched_of k e = cond e.receives (min k 16) 0

unfoldable pub waiting_next : ℕ → Decision → ℕ
waiting_next k e = cond e.joins (min (k + 1) 255) k

unfoldable pub sent_next : ℕ → Decision → ℕ
sent_next k e = cond e.sends (min (k + 1) 255) k

unfoldable pub cell_next : Cell → Decision → Cell
cell_next c e = cond e.sends (cell_of e.signal) c

unfoldable pub slot_next : Slot → Decision → Slot
slot_next s e = cond e.joins (slot_of e.message) s
