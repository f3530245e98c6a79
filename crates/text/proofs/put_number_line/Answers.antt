-- `put_number_line` writes a key, a number and byte 10. Assumes nothing.
use Rattle.text.specs.Writing.{number_line}
use Rattle.text.proofs.Writing.{wrote_length, ◌▸◌}
use Rattle.text.proofs.put_number_line.Goals as goal

pub returns : goal.returns
unfolding number_line
returns c =
    c.put_bytes-e.ensures ▸ c.put_number-e.ensures ▸ c.put_byte.ensures

pub shape_of-out : goal.shape_of-out
shape_of-out c = wrote_length (returns c)
