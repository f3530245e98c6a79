-- Giving up on a recv (document 02, M-102). No clock is read: the schedule says when.
--   behind_clauses code t   the op directly behind the last clause of the recv at place t
--   at_after code t         at place t stands a recv with an `after`
--   expires_if st a f       the answer of a timeout at a recv with `after` a, where the search gives f
--   expires code st        the answer of a timeout
--   is_live s               stage s is that of a live process
--   none_fits cs ms         no message of ms fits one of the clauses cs
use Rattle.std.specs.Prelude.{Bool, true, false, not, ◌&&◌, List, ℕ, ◌+◌, eqb, get_or}
use Rattle.std.proofs.Math.Option.{Option, none, some}
use Rattle.node.specs.declared.Message.{Message}
use Rattle.node.specs.declared.Op.{Op}
use Rattle.node.specs.declared.Stage.{Stage}
use Rattle.node.specs.declared.Stage.TheVariants.{Unborn, Live, Closing, Gone}
use Rattle.node.specs.Lists.{all_of}
use Rattle.node.specs.Nodes.{no_op}
use Rattle.node.specs.Ops.{recv_op, after_op}
use Rattle.node.specs.Processes.{moved}
use Rattle.rules.specs.Answers.{Answer, refused, need, owner_unborn, no_timeout}
use Rattle.rules.specs.Effects.{State, Effect, becomes}
use Rattle.rules.specs.Receive.{Fit, fits, first_fit}

-- past the code stands no op
abbrev pub behind_clauses : List Op → ℕ → Op
behind_clauses code t = get_or code (t + 1 + (get_or code t no_op).small) no_op

unfoldable pub at_after : List Op → ℕ → Bool
at_after code t = eqb (get_or code t no_op).number recv_op && eqb (behind_clauses code t).number after_op

-- "It moves a live process at such a recv to t if no message fits"
abbrev pub expires_if : State → Op → Option Fit → Answer Effect
expires_if st a none = becomes st (moved st.process a.target)
expires_if st a (some f) = refused no_timeout

unfoldable pub expires_live : List Op → State → Answer Effect
expires_live code st =
    let t = st.process.place in
    need (at_after code t) no_timeout (expires_if st (behind_clauses code t) (first_fit code st (get_or code t no_op)))

abbrev pub is_live : Stage → Bool
is_live Unborn = false
is_live Live = true
is_live Closing = false
is_live Gone = false

abbrev pub none_fits : List Op → List Message → Bool
none_fits cs ms = all_of (λ m. all_of (λ c. not (fits c m)) cs) ms

abbrev pub expires_in : Stage → List Op → State → Answer Effect
expires_in Unborn code st = refused owner_unborn
expires_in Live code st = expires_live code st
expires_in Closing code st = refused no_timeout
expires_in Gone code st = refused no_timeout

unfoldable pub expires : List Op → State → Answer Effect
expires code st = expires_in st.process.stage code st
