-- Mail before clauses (document 02, M-106): which kinds of message clauses can take, and how many clauses the search of a mailbox consults.
--   can_take c k        clause c can take messages of kind k
--   one_can_take cs k    one of the clauses cs can
--   by_kind cs i ms     the first fit, in M-106's order of work: clauses are tried only on messages of a kind that one of them can take
--   tried cs m later   the clauses up to the first that takes message m; where none does all of them, and `later`
--   consulted cs ms    how many clauses the search of mailbox ms consults
--   ops_of n i          the ops of process i's behaviour;  clauses_of n i  the clauses of the recv at which it is
--   at_recv n i         i is the number of a live process at a recv
--   consultation n i   31, or how many clauses a search of process i's mailbox consults; none where process i is not live at a recv
use Rattle.std.specs.Prelude.{Bool, false, cond, ◌&&◌, ◌||◌, List, [], ◌∷◌, ℕ, ◌+◌, eqb, get_or, take, drop}
use Rattle.std.proofs.Math.Option.{Option, none, some}
use Rattle.node.specs.declared.Message.{Message}
use Rattle.node.specs.declared.Node.{Node}
use Rattle.node.specs.declared.Op.{Op}
use Rattle.node.specs.Nodes.{no_op}
use Rattle.node.specs.Ops.{recv_op}
use Rattle.node.specs.Values.{exact_kind, any_kind, kind_of, message_kind, is_number}
use Rattle.rules.specs.Answers.{Answer, done, need, not_sound}
use Rattle.rules.specs.Nodes.{sound, code, process, mailbox}
use Rattle.rules.specs.Receive.{Fit, fits, first_clause}
use Rattle.rules.specs.Timeout.{is_live}

-- "An exact V can take its own kind, any takes every kind"
unfoldable pub can_take : Op → ℕ → Bool
can_take c k = cond (eqb c.small exact_kind) (eqb (kind_of c.value) k) (eqb c.small any_kind || eqb c.small k)

abbrev pub one_can_take : List Op → ℕ → Bool
one_can_take [] k = false
one_can_take (c ∷ cs) k = can_take c k || one_can_take cs k

-- "walk the mailbox and consult clauses only for messages of those kinds"
abbrev pub by_kind : List Op → ℕ → List Message → Option Fit
by_kind cs i [] = none
by_kind cs i (m ∷ ms) =
    let later = by_kind cs (i + 1) ms in
    cond (one_can_take cs (message_kind m)) (first_clause cs i m later) later

-- "its clauses up to the first that fits, or all"
abbrev pub tried : List Op → Message → ℕ → ℕ
tried [] m later = later
tried (c ∷ cs) m later = 1 + cond (fits c m) 0 (tried cs m later)

-- "for each message up to the fit, or for all if none fits, none where the clauses can't take its kind"
abbrev pub consulted : List Op → List Message → ℕ
consulted cs [] = 0
consulted cs (m ∷ ms) =
    let later = consulted cs ms in
    cond (one_can_take cs (message_kind m)) (tried cs m later) later

-- ---- of a process

abbrev pub ops_of : Node → ℕ → List Op
ops_of n i = code n (process n i).behaviour.0

abbrev pub clauses_of : Node → ℕ → List Op
clauses_of n i = let t = (process n i).place in take (get_or (ops_of n i) t no_op).small (drop (t + 1) (ops_of n i))

-- past the code stands no op
abbrev pub at_recv : Node → ℕ → Bool
at_recv n i = is_number i && is_live (process n i).stage && eqb (get_or (ops_of n i) (process n i).place no_op).number recv_op

unfoldable pub consultation : Node → ℕ → Answer (Option ℕ)
consultation n i = need (sound n) not_sound (done (cond (at_recv n i) (some (consulted (clauses_of n i) (mailbox n i))) none))
