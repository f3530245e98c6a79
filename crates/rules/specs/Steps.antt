-- Steps and schedules (document 01, "Steps" and "The three hands").
--   Action         a step: `run i`, `arrive i from j` or `timeout i`
--   owner a        its owner
--   meaning s      the action that a step record stands for
--   record_of a     the step record of an action
--   decide n a     the local decision: what the owner does, from its own state, its code and the oldest signal of one row
--   commit n a e   the node after effect e of action a
--   rule n a       the checks 20 to 29 in their order, then the commit
--   step n a       a step: 31, then the rule
--   played n l     steps played until one is refused
--   play n l       a schedule (action trace): 31, 32, then played
use Rattle.std.specs.Prelude.{Bool, true, false, cond, not, ◌&&◌, List, [], ◌∷◌, ℕ, ◌+◌, ◌-◌, ltb, length, get_or, set}
use Rattle.std.proofs.Math.Option.{Option, none, some}
use Rattle.node.specs.declared.Node.{Node}
use Rattle.node.specs.declared.Cell.{Cell}
use Rattle.node.specs.declared.Process.{Process}
use Rattle.node.specs.declared.Signal.{Signal}
use Rattle.node.specs.declared.Slot.{Slot}
use Rattle.node.specs.declared.Stage.{Stage}
use Rattle.node.specs.declared.Stage.TheVariants.{Unborn, Live, Closing, Gone}
use Rattle.node.specs.declared.Step.{Step}
use Rattle.node.specs.Blocks.{Shelf, changed, joined, left, popped, emptied}
use Rattle.node.specs.Mailboxes.{slot_of}
use Rattle.node.specs.Nodes.{pair, mail_shelf, flight_shelf}
use Rattle.node.specs.Rows.{no_signal, cell_of}
use Rattle.rules.specs.Answers.{Answer, refused, done, need, go_on, bad_number, owner_unborn, none_in_flight, pair_full, not_unborn, not_sound, schedule_too_long}
use Rattle.rules.specs.Arrive.{arrives}
use Rattle.rules.specs.Effects.{State, MailChange, unchanged, joining, leaving, Effect, Sending, Birth}
use Rattle.rules.specs.Nodes.{code, process, mailbox, row, sound}
use Rattle.rules.specs.Run.{runs}
use Rattle.rules.specs.Timeout.{expires}
use Rattle.node.specs.Values.{is_number}

pub data Action : Type 0 where
  run : ℕ → Action
  arrive : ℕ → ℕ → Action
  timeout : ℕ → Action

abbrev pub owner : Action → ℕ
owner (run i) = i
owner (arrive i j) = i
owner (timeout i) = i

-- a step record by its kind: 0 run, 1 arrive, 2 timeout; any other kind stands for `run 0`, which is refused with 20
unfoldable pub meaning : Step → Action
meaning s = get_or (run s.owner.0 ∷ arrive s.owner.0 s.from.0 ∷ timeout s.owner.0 ∷ []) s.kind (run 0)

-- its `from` is 0 where it has none
unfoldable pub record_of : Action → Step
record_of (run i) = record { kind = 0; owner = record { 0 = i }; from = record { 0 = 0 } }
record_of (arrive i j) = record { kind = 1; owner = record { 0 = i }; from = record { 0 = j } }
record_of (timeout i) = record { kind = 2; owner = record { 0 = i }; from = record { 0 = 0 } }

-- ---- the checks

abbrev pub is_unborn : Stage → Bool
is_unborn Unborn = true
is_unborn Live = false
is_unborn Closing = false
is_unborn Gone = false

-- 20: each number is 1 to 16
unfoldable pub numbered : Action → Bool
numbered (run i) = is_number i
numbered (arrive i j) = is_number i && is_number j
numbered (timeout i) = is_number i

-- 21: the owner is born
unfoldable pub owner_born : Node → Action → Bool
owner_born n a = not (is_unborn (process n (owner a)).stage)

-- 23: a signal is in flight from j to i
unfoldable pub signal_waits : Node → Action → Bool
signal_waits n (run i) = true
signal_waits n (arrive i j) = ltb 0 (length (row n j i))
signal_waits n (timeout i) = true

-- 26: the pair has room for what i sends
unfoldable pub pair_has_room : Node → ℕ → Option Sending → Bool
pair_has_room n i none = true
pair_has_room n i (some x) = ltb (length (row n i x.to)) 4

-- 27: the spawned number is unborn
unfoldable pub number_free : Node → Option Birth → Bool
number_free n none = true
number_free n (some b) = is_unborn (process n b.number).stage

-- ---- the decision and the commit

abbrev pub state : Node → ℕ → State
state n i = record { process = process n i; mail = mailbox n i }

-- "the oldest signal from j to i": the first in order of sending
unfoldable pub incoming : Node → ℕ → ℕ → Signal
incoming n j i = get_or (row n j i) 0 no_signal.signal

unfoldable pub decide : Node → Action → Answer Effect
decide n (run i) = runs (code n (process n i).behaviour.0) i (state n i)
decide n (arrive i j) = arrives i j (state n i) (incoming n j i)
decide n (timeout i) = expires (code n (process n i).behaviour.0) (state n i)

-- "Arrive takes the oldest signal from j to i"
abbrev pub with_arrival : Shelf Cell → Action → Shelf Cell
with_arrival s (run i) = s
with_arrival s (arrive i j) = changed 4 (popped no_signal) (pair j i) s
with_arrival s (timeout i) = s

abbrev pub with_sending : Shelf Cell → ℕ → Option Sending → Shelf Cell
with_sending s i none = s
with_sending s i (some x) = changed 4 (joined (cell_of x.signal)) (pair i x.to) s

-- the mailbox at k behind a change
abbrev pub with_mail : Shelf Slot → ℕ → MailChange → Shelf Slot
with_mail s k unchanged = s
with_mail s k (joining x) = changed 16 (joined (slot_of x)) k s
with_mail s k (leaving i) = changed 16 (left i) k s

-- who is brought to life has no mail
abbrev pub without_mail : Shelf Slot → Option Birth → Shelf Slot
without_mail s none = s
without_mail s (some b) = changed 16 emptied (b.number - 1) s

abbrev pub with_birth : List Process → Option Birth → List Process
with_birth ps none = ps
with_birth ps (some b) = set ps (b.number - 1) b.process

unfoldable pub commit : Node → Action → Effect → Node
commit n a e =
    let mail = without_mail (with_mail (mail_shelf n) (owner a - 1) e.mail) e.born in
    let flight = with_sending (with_arrival (flight_shelf n) a) (owner a) e.sent in
    record {
      count = n.count;
      lens = n.lens;
      ops = n.ops;
      processes = with_birth (set n.processes (owner a - 1) e.process) e.born;
      waiting = mail.counts;
      slots = mail.cells;
      counts = flight.counts;
      cells = flight.cells;
    }

-- ---- a step

-- all that is looked at before 27: "20, 21, 22 or 23, then the rest, of which no two can meet"; 22, 24, 25, 28 and 29 are the decision's
unfoldable pub ready : Node → Action → Answer Effect
ready n a =
    need (numbered a) bad_number
    (need (owner_born n a) owner_unborn
    (need (signal_waits n a) none_in_flight
    (go_on (decide n a) (λ e. need (pair_has_room n (owner a) e.sent) pair_full (done e)))))

unfoldable pub rule : Node → Action → Answer Node
rule n a = go_on (ready n a) (λ e. need (number_free n e.born) not_unborn (done (commit n a e)))

unfoldable pub step : Node → Action → Answer Node
step n a = need (sound n) not_sound (rule n a)

-- ---- a schedule

-- "the answer is the count accepted, the refusal (0 if none) and the node then"
pub record Outcome : Type 0 where
  pub accepted : ℕ
  pub refusal : ℕ
  pub node : Node

-- an answer, and what is played from the node behind it
abbrev pub plays_on : Node → Answer Node → (Node → Outcome) → Outcome
plays_on n (refused k) f = record { accepted = 0; refusal = k; node = n }
plays_on n (done m) f = let r = f m in record { accepted = r.accepted + 1; refusal = r.refusal; node = r.node }

unfoldable pub played : Node → List Action → Outcome
played n [] = record { accepted = 0; refusal = 0; node = n }
played n (a ∷ l) = plays_on n (step n a) (λ m. played m l)

-- "A play refused by 31 or 32 has count 0"
unfoldable pub play : Node → List Action → Outcome
play n l =
    cond (not (sound n)) (record { accepted = 0; refusal = not_sound; node = n })
    (cond (ltb 4096 (length l)) (record { accepted = 0; refusal = schedule_too_long; node = n })
    (played n l))
