-- What the answers of this crate mean in the rules of document 01. A decision reads the process, and of its mailbox only how many messages it
-- holds; it answers with a record of the code, in which a message, a sending and a birth stand behind flags.
--   state_of p m            the local state of a process with its messages
--   unread p k             what a decision knows of its owner: process p, with k messages that are not looked at
--   tells ..               the record that tells a refusal (0 if none), the next process, whether the mailbox is to be searched, which message
--                          joins, what is sent and who is brought to life; where there is none of these, its fields are blank
--   refusing, becoming, searching, sending_to   four such records by name
--   joined_by c             the message that joins by a change of the mailbox
--   decision_of st a        the record that tells answer a of the rules, of a process in state st
--   says p k f             the record that tells what rule f answers for process p with k messages
--   ran_op i p o            what a run of process i at op o says
--   code_at len t o         a code of len ops, with o at place t
--   ran i p len o          what a run of process i, whose code has len ops and which is at op o, says
--   arrived i j p k x      what the arrival at process i of signal x from j says
--   expired i p len o      what a timeout of such a process says: live at a recv, that its mailbox is to be searched, as a run does
--   mail_of, sent_of, born_of what becomes of the mailbox by a record, what it sends, and whom it brings to life
--   effect_of i e           the effect that a record tells of process i
--   answer_of late code i st e   the rules' answer that record e tells of process i, in state st and with its code: of a timeout if `late`
--   named_by v              the process that value v names; 0 where it names none
use Rattle.std.specs.Prelude.{Bool, true, false, cond, List, [], ℕ, eqb, get_or, set, replicate}
use Rattle.std.proofs.Math.Option
use Rattle.std.proofs.Math.Option.{Option, none, some}
use Rattle.node.specs.declared.Message.{Message}
use Rattle.node.specs.declared.Op.{Op}
use Rattle.node.specs.declared.Process.{Process}
use Rattle.node.specs.declared.ProcessNumber.{ProcessNumber}
use Rattle.node.specs.declared.Signal.{Signal}
use Rattle.node.specs.declared.Signal.TheVariants.{Link}
use Rattle.node.specs.declared.Value.{Value}
use Rattle.node.specs.Mailboxes.{no_message}
use Rattle.node.specs.Nodes.{no_op, no_process}
use Rattle.node.specs.Processes.{fresh}
use Rattle.node.specs.Values.{pid}
use Rattle.rules.specs.Answers.{Answer, refused, done, mailbox_empty, no_timeout}
use Rattle.rules.specs.Arrive.{arrives}
use Rattle.rules.specs.Effects.{State, MailChange, unchanged, joining, leaving, Sending, Birth, Effect}
use Rattle.rules.specs.Receive.{receives}
use Rattle.rules.specs.Run.{process_in, runs, runs_op}
use Rattle.rules.specs.Timeout.{expires_live}
use Rattle.receive.specs.Waiting.{awaits}
use Rattle.decisions.specs.Records.{Decision}

abbrev pub state_of : Process → List Message → State
state_of p m = record { process = p; mail = m }

abbrev pub unread : Process → ℕ → State
unread p k = state_of p (replicate k no_message.message)

-- ---- the record

abbrev pub is_some : {A : Type 0} → Option A → Bool
is_some none = false
is_some (some x) = true

-- what the fields hold where nothing is sent and nobody is brought to life
abbrev pub no_sending : Sending
no_sending = record { to = 0; signal = Link }

abbrev pub no_birth : Birth
no_birth = record { number = 0; process = no_process }

abbrev pub tells : ℕ → Process → Bool → Option Message → Option Sending → Option Birth → Decision
tells k p searches joins sent born = record {
  refusal = k;
  process = p;
  receives = searches;
  joins = is_some joins;
  message = Option.get_or joins no_message.message;
  sends = is_some sent;
  to = record { 0 = (Option.get_or sent no_sending).to };
  signal = (Option.get_or sent no_sending).signal;
  spawns = is_some born;
  number = record { 0 = (Option.get_or born no_birth).number };
  behaviour = (Option.get_or born no_birth).process.behaviour;
}

-- the process is as it was where the answer is a refusal
abbrev pub refusing : Process → ℕ → Decision
refusing p k = tells k p false none none none

abbrev pub becoming : Process → Decision
becoming p = tells 0 p false none none none

abbrev pub searching : Process → Decision
searching p = tells 0 p true none none none

abbrev pub sending_to : Process → ProcessNumber → Signal → Decision
sending_to p j x = tells 0 p false none (some (record { to = j.0; signal = x })) none

abbrev pub joined_by : MailChange → Option Message
joined_by unchanged = none
joined_by (joining x) = some x
joined_by (leaving k) = none

-- a run is told without its messages (`unread` with none): there 25 says that the mailbox is still to be searched
abbrev pub decision_of : State → Answer Effect → Decision
decision_of st (refused k) = cond (eqb k mailbox_empty) (searching st.process) (refusing st.process k)
decision_of st (done x) = tells 0 x.process false (joined_by x.mail) x.sent x.born

abbrev pub says : Process → ℕ → (State → Answer Effect) → Decision
says p k f = decision_of (unread p k) (f (unread p k))

-- ---- the decisions

-- only a recv reads the code, for a message that it looks at
unfoldable pub ran_op : ProcessNumber → Process → Op → Decision
ran_op i p o = says p 0 (λ st. runs_op [] i.0 st o)

abbrev pub code_at : ℕ → ℕ → Op → List Op
code_at len t o = set (replicate len no_op) t o

unfoldable pub ran : ProcessNumber → Process → ℕ → Op → Decision
ran i p len o = says p 0 (λ st. runs (code_at len p.place o) i.0 st)

unfoldable pub arrived : ProcessNumber → ProcessNumber → Process → ℕ → Signal → Decision
arrived i j p k x = says p k (λ st. arrives i.0 j.0 st x)

unfoldable pub expired : ProcessNumber → Process → ℕ → Op → Decision
expired i p len o = cond (awaits p len o) (ran i p len o) (refusing p no_timeout)

-- ---- the answer that a record tells

abbrev pub mail_of : Decision → MailChange
mail_of e = cond e.joins (joining e.message) unchanged

abbrev pub sent_of : Decision → Option Sending
sent_of e = cond e.sends (some (record { to = e.to.0; signal = e.signal })) none

abbrev pub born_of : ℕ → Decision → Option Birth
born_of i e = cond e.spawns (some (record { number = e.number.0; process = fresh e.behaviour (pid i) })) none

abbrev pub effect_of : ℕ → Decision → Effect
effect_of i e = record { process = e.process; mail = mail_of e; sent = sent_of e; born = born_of i e }

abbrev pub answer_of : Bool → List Op → ℕ → State → Decision → Answer Effect
answer_of late code i st e =
    cond e.receives (cond late (expires_live code st) (receives code st (get_or code st.process.place no_op)))
    (cond (eqb e.refusal 0) (done (effect_of i e))
    (refused e.refusal))

abbrev pub named_by : Value → ℕ
named_by v = Option.get_or (process_in v) 0
