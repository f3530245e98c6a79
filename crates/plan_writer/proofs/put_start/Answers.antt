-- `put_start` writes a line `start=`. Assumes nothing.
use Rattle.text.proofs.Writing.{◌▸◌}
use Rattle.plan_writer.specs.Texts.{start_row}
use Rattle.plan_writer.proofs.put_start.Goals as goal

pub returns : goal.returns
unfolding start_row
returns c =
    c.put_bytes-e.ensures ▸ c.put_number-e.ensures ▸ c.put_byte-e.ensures ▸ c.put_number-e-2.ensures ▸ c.put_byte.ensures
