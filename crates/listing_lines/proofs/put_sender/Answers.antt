-- `put_sender` writes a key, the sender with its letter, then the reason. Assumes nothing.
use Rattle.text.proofs.Writing.{wrote_length, ◌▸◌}
use Rattle.listing_lines.specs.Lines.{sender_line}
use Rattle.listing_lines.proofs.put_sender.Goals as goal

pub returns : goal.returns
unfolding sender_line
returns c =
    c.put_bytes-e.ensures ▸ c.put_value-e.ensures ▸ c.put_byte-e.ensures ▸ c.put_value-e-2.ensures ▸ c.put_byte.ensures

pub shape_of-out : goal.shape_of-out
shape_of-out c = wrote_length (returns c)
