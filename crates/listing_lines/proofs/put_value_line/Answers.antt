-- `put_value_line` writes a key, a value and byte 10. Assumes nothing.
use Rattle.text.proofs.Writing.{wrote_length, ◌▸◌}
use Rattle.listing_lines.specs.Lines.{value_line}
use Rattle.listing_lines.proofs.put_value_line.Goals as goal

pub returns : goal.returns
unfolding value_line
returns c =
    c.put_bytes-e.ensures ▸ c.put_value-e.ensures ▸ c.put_byte.ensures

pub shape_of-out : goal.shape_of-out
shape_of-out c = wrote_length (returns c)
