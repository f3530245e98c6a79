-- `put_live` writes a live process: its stage, then what it holds, up to its messages. Assumes nothing.
use mathlib.Core.Path.{ap, ◌∙◌}
use Rattle.text.proofs.Writing.{wrote_length, ◌▸◌, wrote_as}
use Rattle.text.specs.Writing.{number_line}
use Rattle.listing_lines.specs.Lines.{standing_lines}
use Rattle.listing_lines.specs.Words.{trap_key}
use Rattle.listing_lines.proofs.Laws.{flag_lem}
use Rattle.listing_lines.proofs.put_live.Goals as goal

pub returns : goal.returns
unfolding standing_lines
returns c =
    c.put_number_line-e.ensures ▸ c.put_bytes-e.ensures ▸ c.put_number_line-e-2.ensures ▸ c.put_number_line-e-3.ensures
    ▸ c.put_registers-e.ensures ▸ wrote_as (ap (number_line trap_key) (c.from.ensures ∙ flag_lem _)) c.put_number_line-e-4.ensures ▸ c.put_sets-e.ensures ▸
    c.put_number_line.ensures

pub shape_of-out : goal.shape_of-out
shape_of-out c = wrote_length (returns c)
