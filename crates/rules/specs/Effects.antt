-- What a step does: the owner's local state, and the effect that a local decision answers.
--   State          what a decision reads of its owner: the process and its mailbox
--   MailChange     what becomes of a mailbox: nothing, a message joins behind the others, or message k leaves
--   mail_behind     the messages behind it
--   Effect         the owner's next process, what becomes of its mailbox, at most one signal sent, at most one process brought to life
--   becomes        only the process changes
--   ends           the process ends with a reason
--   sends          the process changes and a signal is put in flight to j
use Rattle.std.specs.Prelude.{List, [], ◌∷◌, ◌++◌, ℕ}
use Rattle.std.proofs.Math.Option.{Option, none, some}
use Rattle.node.specs.declared.Message.{Message}
use Rattle.node.specs.declared.Process.{Process}
use Rattle.node.specs.declared.Signal.{Signal}
use Rattle.node.specs.declared.Value.{Value}
use Rattle.node.specs.Lists.{without}
use Rattle.node.specs.Processes.{ended}
use Rattle.rules.specs.Answers.{Answer, done}

pub record State : Type 0 where
  pub process : Process
  pub mail : List Message

pub data MailChange : Type 0 where
  unchanged : MailChange
  joining : Message → MailChange
  leaving : ℕ → MailChange

abbrev pub mail_behind : MailChange → List Message → List Message
mail_behind unchanged m = m
mail_behind (joining x) m = m ++ (x ∷ [])
mail_behind (leaving k) m = without k m

pub record Sending : Type 0 where
  pub to : ℕ
  pub signal : Signal

pub record Birth : Type 0 where
  pub number : ℕ
  pub process : Process

pub record Effect : Type 0 where
  pub process : Process
  pub mail : MailChange
  pub sent : Option Sending
  pub born : Option Birth

abbrev pub becomes : State → Process → Answer Effect
becomes st p = done (record { process = p; mail = unchanged; sent = none; born = none })

abbrev pub ends : State → Value → Answer Effect
ends st v = becomes st (ended st.process v)

abbrev pub sends : State → Process → ℕ → Signal → Answer Effect
sends st p j x = done (record { process = p; mail = unchanged; sent = some (record { to = j; signal = x }); born = none })
