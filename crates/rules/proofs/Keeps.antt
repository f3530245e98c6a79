-- What the effect of a step must keep of soundness, stated once (`Keeps`), and the effects that keep it. Assumes nothing.
use mathlib.Core.Bool.{false, So}
use mathlib.Core.List.{List, []}
use mathlib.Core.Option.{Option, none, some}
use mathlib.Core.Path.{◌≡◌, refl}
use Prim.Native.Nat.{ℕ, ◌≤◌, ◌<◌}
use lib.ListN.{length}
use Rattle.node.specs.declared.Message.{Message}
use Rattle.node.specs.declared.Process.{Process}
use Rattle.node.specs.declared.Signal.{Signal}
use Rattle.node.specs.declared.Value.{Value}
use Rattle.node.specs.Processes.{ended}
use Rattle.rules.specs.Answers.{Answer, refused, done}
use Rattle.rules.specs.Behaviours.{Instruction}
use Rattle.rules.specs.Effects.{State, MailChange, unchanged, joining, leaving, mail_behind, Effect, Sending, Birth, becomes, ends, sends}
use Rattle.rules.specs.Nodes.{standing, standing_sound, signal_sound}
use Rattle.rules.specs.Steps.{is_unborn}
use Rattle.node.specs.Values.{is_number, value_sound}
use Rattle.rules.proofs.All.{both}
use Rattle.rules.proofs.Living.{Alone, Alive, alive_sound, live_born}

-- ---- what an effect must keep

abbrev pub SentOk : ℕ → Option Sending → Type 0
SentOk i none = Unit {0}
SentOk i (some x) = So (is_number x.to) × So (signal_sound i x.to x.signal)

-- a spawned process is sound with an empty mailbox
pub record BirthOk (codes : List (List Instruction)) (b : Birth) : Type 0 where
  pub number : So (is_number b.number)
  pub sound : So (standing_sound codes b.number (standing b.process []))
  pub born : is_unborn b.process.stage ≡ false

abbrev pub BornOk : List (List Instruction) → Option Birth → Type 0
BornOk codes none = Unit {0}
BornOk codes (some b) = BirthOk codes b

-- no effect both sends and brings a process to life, so 26 and 27 never meet
abbrev pub NotBoth : Option Sending → Option Birth → Type 0
NotBoth none b = Unit {0}
NotBoth (some x) none = Unit {0}
NotBoth (some x) (some b) = ⊥

-- a message joins where there is room, and one that is there leaves
abbrev pub MailOk : MailChange → List Message → Type 0
MailOk unchanged m = Unit {0}
MailOk (joining x) m = length m < 16
MailOk (leaving k) m = (k < length m) × (length m ≤ 16)

-- effect e of process i, whose mailbox is m
pub record Keeps (codes : List (List Instruction)) (i : ℕ) (m : List Message) (e : Effect) : Type 0 where
  pub sound : So (standing_sound codes i (standing e.process (mail_behind e.mail m)))
  pub mail : MailOk e.mail m
  pub born : is_unborn e.process.stage ≡ false
  pub sent : SentOk i e.sent
  pub birth : BornOk codes e.born
  pub apart : NotBoth e.sent e.born

-- an answer that refuses keeps everything; one that accepts has an effect that does
abbrev pub Good : List (List Instruction) → ℕ → List Message → Answer Effect → Type 0
Good codes i m (refused k) = Unit {0}
Good codes i m (done e) = Keeps codes i m e

-- only the process changes
pub becomes_alive : (codes : List (List Instruction)) (i : ℕ) (st : State) (q : Process) → Alive codes i q st.mail → Good codes i st.mail (becomes st q)
becomes_alive codes i st q a = record { sound = alive_sound codes i q st.mail a; mail = tt; born = live_born codes i q st.mail a; sent = tt; birth = tt; apart = tt }

pub sends_alive : (codes : List (List Instruction)) (i : ℕ) (st : State) (q : Process) (j : ℕ) (x : Signal) → Alive codes i q st.mail → So (is_number j) → So (signal_sound i j x) →
    Good codes i st.mail (sends st q j x)
sends_alive codes i st q j x a n h = record { sound = alive_sound codes i q st.mail a; mail = tt; born = live_born codes i q st.mail a; sent = (n, h); birth = tt; apart = tt }

-- an ended process keeps its reason, its links and its watchers
pub ends_good : (codes : List (List Instruction)) (i : ℕ) (st : State) (v : Value) → So (value_sound v) → Alone i st.process → Good codes i st.mail (ends st v)
unfolding standing ended
ends_good codes i st v h a = record { sound = both (both h a.links) a.watchers; mail = tt; born = refl; sent = tt; birth = tt; apart = tt }
