-- The keys of the listing and its lines without a number (document 01, "Plan, steps and listing text").
use Rattle.std.specs.Prelude.{List, ℕ}
use Rattle.node.specs.Texts.{bytes}

abbrev pub process_key : List ℕ
process_key = bytes "process="

abbrev pub live_line : List ℕ
live_line = bytes "stage=live\n"

abbrev pub closing_line : List ℕ
closing_line = bytes "stage=closing\n"

abbrev pub gone_line : List ℕ
gone_line = bytes "stage=gone\n"

abbrev pub behaviour_key : List ℕ
behaviour_key = bytes "behaviour="

abbrev pub place_key : List ℕ
place_key = bytes "place="

abbrev pub trap_key : List ℕ
trap_key = bytes "trap="

abbrev pub links_key : List ℕ
links_key = bytes "links="

abbrev pub watches_key : List ℕ
watches_key = bytes "watches="

abbrev pub watchers_key : List ℕ
watchers_key = bytes "watchers="

abbrev pub reason_key : List ℕ
reason_key = bytes "reason="

abbrev pub mail_key : List ℕ
mail_key = bytes "mail="

abbrev pub message_key : List ℕ
message_key = bytes "message="

abbrev pub note_key : List ℕ
note_key = bytes "note="

abbrev pub down_key : List ℕ
down_key = bytes "down="

abbrev pub flight_key : List ℕ
flight_key = bytes "flight="

abbrev pub msg_key : List ℕ
msg_key = bytes "signal=msg,"

abbrev pub exit_key : List ℕ
exit_key = bytes "signal=exit,"

abbrev pub link_line : List ℕ
link_line = bytes "signal=link\n"

abbrev pub unlink_line : List ℕ
unlink_line = bytes "signal=unlink\n"

abbrev pub monitor_line : List ℕ
monitor_line = bytes "signal=monitor\n"

abbrev pub demonitor_line : List ℕ
demonitor_line = bytes "signal=demonitor\n"

abbrev pub down_signal_key : List ℕ
down_signal_key = bytes "signal=down,"
