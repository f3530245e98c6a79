-- The refusals that the caller and the schedule writer are told (document 01, "The three hands"), by their numbers.
--   refusal_number r   the number that tells refusal r
--   refusal_told o     the same where there may be none: 0 is then told
use Rattle.std.specs.Prelude.{ℕ, Option, Some, None}
use Rattle.node.specs.declared.Refusal.{Refusal}
use Rattle.node.specs.declared.Refusal.TheVariants.{BadNumber, OwnerUnborn, OwnerGone, NoneInFlight, MailboxFull, MailboxEmpty, PairFull, NotUnborn, NoTimeout, NoFit, OutputShort, NotSound, ScheduleTooLong}

abbrev pub refusal_number : Refusal → ℕ
refusal_number BadNumber = 20  -- a process number outside 1 to 16
refusal_number OwnerUnborn = 21  -- an unborn owner
refusal_number OwnerGone = 22  -- run of a gone process
refusal_number NoneInFlight = 23  -- an arrival, and no signal is in flight
refusal_number MailboxFull = 24  -- mailbox full where a message or note would join
refusal_number MailboxEmpty = 25  -- recv with an empty mailbox
refusal_number PairFull = 26  -- four signals in flight to the receiver already
refusal_number NotUnborn = 27  -- spawned number not unborn
refusal_number NoTimeout = 28  -- document 02, M-102: timeout of a process that is not live at a recv with `after`, or for which a message fits
refusal_number NoFit = 29  -- document 02, M-104: recv with messages of which none fits
refusal_number OutputShort = 30  -- output shorter than the listing
refusal_number NotSound = 31  -- node not sound
refusal_number ScheduleTooLong = 32  -- schedule above 4,096 steps

abbrev pub refusal_told : Option Refusal → ℕ
refusal_told None = 0
refusal_told (Some r) = refusal_number r
