-- `put_flight` writes the first line of a pair. Assumes nothing.
use Rattle.text.proofs.Writing.{wrote_length, ◌▸◌}
use Rattle.listing_lines.specs.Lines.{flight_line}
use Rattle.listing_lines.proofs.put_flight.Goals as goal

pub returns : goal.returns
unfolding flight_line
returns c =
    c.put_bytes-e.ensures ▸ c.put_number-e.ensures ▸ c.put_byte-e.ensures ▸ c.put_number-e-2.ensures
    ▸ c.put_byte-e-2.ensures ▸ c.put_number-e-3.ensures ▸ c.put_byte.ensures

pub shape_of-out : goal.shape_of-out
shape_of-out c = wrote_length (returns c)
