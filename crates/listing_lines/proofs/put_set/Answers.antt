-- `put_set` writes a key and a set of processes. Assumes nothing.
use Rattle.text.proofs.Writing.{wrote_length, ◌▸◌}
use Rattle.listing_lines.specs.Lines.{set_line}
use Rattle.listing_lines.proofs.put_set.Goals as goal

pub returns : goal.returns
unfolding set_line
returns c =
    c.put_bytes-e.ensures ▸ c.put_members-e.ensures ▸ c.put_byte.ensures

pub shape_of-out : goal.shape_of-out
shape_of-out c = wrote_length (returns c)
