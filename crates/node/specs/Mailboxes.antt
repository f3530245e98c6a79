-- Mailboxes: blocks of sixteen slots (document 01, "The node").
--   no_message     what a slot holds in a fresh node
--   messages b    the messages of a mailbox, in order of arrival
--   slot_of x      a slot that holds message x
use Rattle.std.specs.Prelude.{List, map}
use Rattle.node.specs.declared.Message.{Message}
use Rattle.node.specs.declared.Message.TheVariants.{Plain}
use Rattle.node.specs.declared.Slot.{Slot}
use Rattle.node.specs.Blocks.{Block, held}
use Rattle.node.specs.Values.{int_zero}

abbrev pub no_message : Slot
no_message = record { message = Plain int_zero }

abbrev pub slot_of : Message → Slot
slot_of x = record { message = x }

unfoldable pub messages : Block Slot → List Message
messages b = map (λ (s : Slot). s.message) (held no_message b)
