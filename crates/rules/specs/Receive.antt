-- Receiving (document 01, "Recv"; document 02, M-104).
--   fits c m           clause c takes message m
--   Fit                a message, its index in the mailbox, and the clause that takes it
--   search cs i ms     the first fit: messages in mailbox order, the first having index i, and for each the clauses in their order
--   with_message p c m  process p with message m in the registers that clause c names
--   first_fit code st o the first fit for recv o, at which the process is
--   Searched           what the search of a mailbox answers: it is silent, its messages are unfit, or the first fit
--   answered f ms      that answer for mailbox ms, in which f is the first fit
--   search_number s     the number of document 01 for each of the three
--   receives_by st s    the answer of a recv, where the search answers s
--   receives code st o the answer of recv o
use Rattle.std.specs.Prelude.{Bool, false, cond, ◌||◌, List, [], ◌∷◌, ℕ, ◌+◌, eqb, take, drop}
use Rattle.std.proofs.Math.Option.{Option, none, some}
use Rattle.node.specs.declared.Message.{Message}
use Rattle.node.specs.declared.Message.TheVariants.{Plain, Note, Down}
use Rattle.node.specs.declared.Op.{Op}
use Rattle.node.specs.declared.Process.{Process}
use Rattle.node.specs.declared.ProcessNumber.{ProcessNumber}
use Rattle.node.specs.declared.Value.{Value}
use Rattle.node.specs.declared.Value.TheVariants.{Pid}
use Rattle.node.specs.Processes.{with_register, moved}
use Rattle.node.specs.Values.{exact_kind, any_kind, message_kind, same_value}
use Rattle.rules.specs.Answers.{Answer, refused, done, mailbox_empty, no_fit}
use Rattle.rules.specs.Effects.{State, Effect, leaving}

abbrev pub is_value : Value → Message → Bool
is_value w (Plain v) = same_value v w
is_value w (Note j v) = false
is_value w (Down j v) = false

-- "k is any (notes too), int, atom, pid, note or one exact V (values only)", and down
unfoldable pub fits : Op → Message → Bool
fits c m = cond (eqb c.small exact_kind) (is_value c.value m) (eqb c.small any_kind || eqb c.small (message_kind m))

pub record Fit : Type 0 where
  pub index : ℕ
  pub message : Message
  pub clause : Op

-- the first of the clauses that takes message m, which has index i; else what the later messages give
abbrev pub first_clause : List Op → ℕ → Message → Option Fit → Option Fit
first_clause [] i m later = later
first_clause (c ∷ cs) i m later = cond (fits c m) (some (record { index = i; message = m; clause = c })) (first_clause cs i m later)

abbrev pub search : List Op → ℕ → List Message → Option Fit
search cs i [] = none
search cs i (m ∷ ms) = first_clause cs i m (search cs (i + 1) ms)

-- "A value goes to r; of a note the sender goes to r, then the reason to s", of a down too
abbrev pub with_sender : Process → Op → ProcessNumber → Value → Process
with_sender p c j v = with_register (with_register p c.r (Pid j)) c.s v

abbrev pub with_message : Process → Op → Message → Process
with_message p c (Plain v) = with_register p c.r v
with_message p c (Note j v) = with_sender p c j v
with_message p c (Down j v) = with_sender p c j v

-- "The next n ops are its clauses"
abbrev pub first_fit : List Op → State → Op → Option Fit
first_fit code st o = search (take o.small (drop (st.process.place + 1) code)) 0 st.mail

-- M-104: "a row that hears nothing" and "one that hears the wrong thing"
pub data Searched : Type 0 where
  silent : Searched
  unfit : Searched
  fit : Fit → Searched

abbrev pub answered : Option Fit → List Message → Searched
answered (some f) ms = fit f
answered none [] = silent
answered none (m ∷ ms) = unfit

-- 25, 29, and 0 with the message's index and the clause
abbrev pub search_number : Searched → ℕ
search_number silent = mailbox_empty
search_number unfit = no_fit
search_number (fit f) = 0

-- "That message leaves, the rest keep their order. .. Place becomes t"
abbrev pub receives_by : State → Searched → Answer Effect
receives_by st silent = refused mailbox_empty
receives_by st unfit = refused no_fit
receives_by st (fit f) = done (record {
  process = moved (with_message st.process f.clause f.message) f.clause.target;
  mail = leaving f.index;
  sent = none;
  born = none;
})

unfoldable pub receives : List Op → State → Op → Answer Effect
receives code st o = receives_by st (answered (first_fit code st o) st.mail)
