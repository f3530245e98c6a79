-- A refused text's line: a key, a number, a comma, a line and byte 10. Assumes nothing.
use Rattle.controller.specs.Program.{refused_line}
use Rattle.text.proofs.Writing.{◌▸◌}
use Rattle.controller.proofs.RefusedText.put.Goals as goal

pub returns : goal.returns
unfolding refused_line
returns c = c.put_bytes-e.ensures ▸ c.put_number-e.ensures ▸ c.put_byte-e.ensures ▸ c.put_number-e-2.ensures ▸ c.put_byte.ensures
