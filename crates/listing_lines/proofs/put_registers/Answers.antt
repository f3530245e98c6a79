-- `put_registers` writes the four registers. Assumes nothing.
use Rattle.text.proofs.Writing.{wrote_length, ◌▸◌, wrote_as}
use Rattle.listing_lines.proofs.Laws.{registers_text}
use Rattle.listing_lines.proofs.put_registers.Goals as goal

pub returns : goal.returns
returns c =
    wrote_as (registers_text _ _ _ _) (c.put_value_line-e.ensures ▸ c.put_value_line-e-2.ensures
    ▸ c.put_value_line-e-3.ensures ▸ c.put_value_line.ensures)

pub shape_of-out : goal.shape_of-out
shape_of-out c = wrote_length (returns c)
