-- `put_process` writes a process by its stage; an unborn one has no text. Assumes nothing.
use native.Mathlib.Omega.{arith}
use Rattle.text.proofs.Writing.{wrote_as, wrote_none}
use Rattle.listing_lines.specs.Lines.{standing_lines}
use Rattle.listing_lines.proofs.Laws.{lines_in}
use Rattle.listing_lines.proofs.put_process.Goals as goal

pub returns-in-Unborn : goal.returns-in-Unborn
unfolding standing_lines
returns-in-Unborn c =
    wrote_as (lines_in _ _ _ c.in-Unborn.is) (wrote_none _ _ (omega arith) (omega arith))

pub returns-in-Live : goal.returns-in-Live
returns-in-Live c =
    let put-live = c.put_live in
    wrote_as (lines_in _ _ _ c.in-Live.is) put-live.ensures

pub returns-in-Closing : goal.returns-in-Closing
unfolding standing_lines
returns-in-Closing c =
    let put-closing = c.put_closing in
    wrote_as (lines_in _ _ _ c.in-Closing.is) put-closing.ensures

pub returns-in-Gone : goal.returns-in-Gone
unfolding standing_lines
returns-in-Gone c =
    let put-gone = c.put_gone in
    wrote_as (lines_in _ _ _ c.in-Gone.is) put-gone.ensures
