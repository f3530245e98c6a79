-- `put_closing` writes a closing process: its stage, reason, links and watchers. Assumes nothing.
use Rattle.text.proofs.Writing.{wrote_length, ◌▸◌}
use Rattle.listing_lines.specs.Lines.{standing_lines}
use Rattle.listing_lines.proofs.put_closing.Goals as goal

pub returns : goal.returns
unfolding standing_lines
returns c =
    c.put_number_line-e.ensures ▸ c.put_bytes-e.ensures ▸ c.put_value_line-e.ensures ▸ c.put_set-e.ensures ▸ c.put_set.ensures

pub shape_of-out : goal.shape_of-out
shape_of-out c = wrote_length (returns c)
