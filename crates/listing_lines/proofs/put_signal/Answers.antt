-- `put_signal` writes a signal by its kind. Assumes nothing.
use mathlib.Core.Path.{sym, ap}
use Rattle.text.proofs.Writing.{wrote_as}
use Rattle.listing_lines.specs.Lines.{signal_line}
use Rattle.listing_lines.proofs.put_signal.Goals as goal

pub returns-in-Msg : goal.returns-in-Msg
unfolding signal_line
returns-in-Msg c =
    let put-value-line = c.put_value_line in
    wrote_as (sym (ap signal_line c.in-Msg.is)) put-value-line.ensures

pub returns-in-Exit : goal.returns-in-Exit
unfolding signal_line
returns-in-Exit c =
    let put-exit = c.put_exit in
    wrote_as (sym (ap signal_line c.in-Exit.is)) put-exit.ensures

pub returns-in-Link : goal.returns-in-Link
unfolding signal_line
returns-in-Link c =
    let put-bytes = c.put_bytes in
    wrote_as (sym (ap signal_line c.in-Link.is)) put-bytes.ensures

pub returns-in-Unlink : goal.returns-in-Unlink
unfolding signal_line
returns-in-Unlink c =
    let put-bytes = c.put_bytes-in-Unlink in
    wrote_as (sym (ap signal_line c.in-Unlink.is)) put-bytes.ensures

pub returns-in-Monitor : goal.returns-in-Monitor
unfolding signal_line
returns-in-Monitor c =
    let put-bytes = c.put_bytes-in-Monitor in
    wrote_as (sym (ap signal_line c.in-Monitor.is)) put-bytes.ensures

pub returns-in-Demonitor : goal.returns-in-Demonitor
unfolding signal_line
returns-in-Demonitor c =
    let put-bytes = c.put_bytes-in-Demonitor in
    wrote_as (sym (ap signal_line c.in-Demonitor.is)) put-bytes.ensures

pub returns-in-Down : goal.returns-in-Down
unfolding signal_line
returns-in-Down c =
    let put-value-line = c.put_value_line-in-Down in
    wrote_as (sym (ap signal_line c.in-Down.is)) put-value-line.ensures
