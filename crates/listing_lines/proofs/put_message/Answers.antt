-- `put_message` writes a message by its kind. Assumes nothing.
use mathlib.Core.Path.{sym, ap}
use Rattle.text.proofs.Writing.{wrote_as}
use Rattle.listing_lines.specs.Lines.{message_line}
use Rattle.listing_lines.proofs.put_message.Goals as goal

pub returns-in-Plain : goal.returns-in-Plain
unfolding message_line
returns-in-Plain c =
    let put-value-line = c.put_value_line in
    wrote_as (sym (ap message_line c.in-Plain.is)) put-value-line.ensures

pub returns-in-Note : goal.returns-in-Note
unfolding message_line
returns-in-Note c =
    let put-sender = c.put_sender in
    wrote_as (sym (ap message_line c.in-Note.is)) put-sender.ensures

pub returns-in-Down : goal.returns-in-Down
unfolding message_line
returns-in-Down c =
    let put-sender = c.put_sender-in-Down in
    wrote_as (sym (ap message_line c.in-Down.is)) put-sender.ensures
