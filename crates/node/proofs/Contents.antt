-- What a mailbox and a row hold, read off their blocks. Assumes nothing.
use mathlib.Core.Path.{◌≡◌}
use Prim.Native.Nat.{ℕ, ◌<◌}
use lib.ListN.{length, get_or}
use Rattle.node.proofs.Lists.{held_at, held_length}
use Rattle.node.specs.declared.Cell.{Cell}
use Rattle.node.specs.declared.Slot.{Slot}
use Rattle.node.specs.Blocks.{Block}
use Rattle.node.specs.Mailboxes.{messages, no_message}
use Rattle.node.specs.Rows.{no_signal, signals}

pub messages_length : (b : Block Slot) → length (messages b) ≡ b.count
unfolding messages
messages_length b = held_length (λ (s : Slot). s.message) no_message b.count b.cells

pub messages_at : (b : Block Slot) (k : ℕ) → k < b.count → get_or (messages b) k no_message.message ≡ (get_or b.cells k no_message).message
unfolding messages
messages_at b k h = held_at (λ (s : Slot). s.message) no_message b.count b.cells k h

pub signals_length : (b : Block Cell) → length (signals b) ≡ b.count
unfolding signals
signals_length b = held_length (λ (c : Cell). c.signal) no_signal b.count b.cells

pub signals_at : (b : Block Cell) (k : ℕ) → k < b.count → get_or (signals b) k no_signal.signal ≡ (get_or b.cells k no_signal).signal
unfolding signals
signals_at b k h = held_at (λ (c : Cell). c.signal) no_signal b.count b.cells k h
