-- `put_exit` writes an exit signal: its reason, then whether it was sent along a link. Assumes nothing.
use mathlib.Core.Path.{ap, ◌∙◌}
use Rattle.text.proofs.Writing.{wrote_length, ◌▸◌, wrote_as}
use Rattle.text.specs.Writing.{digits}
use Rattle.listing_lines.specs.Lines.{signal_line}
use Rattle.listing_lines.proofs.Laws.{flag_lem}
use Rattle.listing_lines.proofs.put_exit.Goals as goal

pub returns : goal.returns
unfolding signal_line
returns c =
    c.put_bytes-e.ensures ▸ c.put_value-e.ensures ▸ c.put_byte-e.ensures
    ▸ wrote_as (ap digits (c.from.ensures ∙ flag_lem _)) c.put_number-e.ensures ▸ c.put_byte.ensures

pub shape_of-out : goal.shape_of-out
shape_of-out c = wrote_length (returns c)
