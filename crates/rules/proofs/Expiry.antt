-- A timeout of a sound node, exactly: 20, 21, 28 or the node behind it. Assumes nothing.
--   search_none   the search gives a fit exactly where a message fits one of the clauses
--   timeouts      the guarantee
use mathlib.Core.Bool.{Bool, true, false, cond, not, ◌&&◌, true≢false}
use mathlib.Core.List.{List, [], ◌∷◌}
use mathlib.Core.Option.{Option, none, some}
use mathlib.Core.Path.{◌≡◌, refl, sym, ◌∙◌, ap}
use Prim.Native.Nat.{ℕ, ◌+◌}
use lib.ListN.{get_or, take, drop}
use Rattle.node.specs.declared.Message.{Message}
use Rattle.node.specs.declared.Op.{Op}
use Rattle.node.specs.declared.Stage.{Stage}
use Rattle.node.specs.declared.Stage.TheVariants.{Unborn, Live, Closing, Gone}
use Rattle.node.specs.Lists.{all_of}
use Rattle.node.specs.Nodes.{no_op}
use Rattle.node.specs.Processes.{moved}
use Rattle.node.specs.Values.{is_number}
use Rattle.rules.specs.Answers.{Answer, done, need, go_on, bad_number, owner_unborn, pair_full, not_unborn, no_timeout}
use Rattle.rules.specs.Effects.{State, Effect, becomes}
use Rattle.rules.specs.Guarantees.{may_expire, expired_node, Timeouts}
use Rattle.rules.specs.Nodes.{code, process}
use Rattle.rules.specs.Receive.{Fit, fits, first_clause, search}
use Rattle.rules.specs.Steps.{timeout, is_unborn, state, numbered, owner_born, signal_waits, pair_has_room, number_free, commit, decide, ready, rule}
use Rattle.rules.specs.Timeout.{behind_clauses, at_after, is_live, none_fits, expires_if, expires_live, expires_in, expires}
use Rattle.rules.proofs.Accepted.{step_rule}

abbrev pub is_none : Option Fit → Bool
is_none none = true
is_none (some f) = false

-- a message fits one of the clauses, or it is the later ones that decide
clause_none : (cs : List Op) (i : ℕ) (m : Message) (later : Option Fit) → is_none (first_clause cs i m later) ≡ (all_of (λ c. not (fits c m)) cs && is_none later)
clause_none [] i m later = refl
clause_none (c ∷ cs) i m later = go (fits c m) (clause_none cs i m later)
  where
    go : (b : Bool) → is_none (first_clause cs i m later) ≡ (all_of (λ c. not (fits c m)) cs && is_none later) →
        is_none (cond b (some (record { index = i; message = m; clause = c })) (first_clause cs i m later)) ≡ (not b && all_of (λ c. not (fits c m)) cs && is_none later)
    go true h = refl
    go false h = h

pub search_none : (cs : List Op) (i : ℕ) (ms : List Message) → is_none (search cs i ms) ≡ none_fits cs ms
search_none cs i [] = refl
search_none cs i (m ∷ ms) = clause_none cs i m (search cs (i + 1) ms) ∙ ap (λ b. all_of (λ c. not (fits c m)) cs && b) (search_none cs (i + 1) ms)

module _ (st : State) (a : Op) where
  abbrev moves : Answer Effect
  moves = becomes st (moved st.process a.target)

  -- a timeout at a recv with `after` a
  expires_need : (b : Bool) (f : Option Fit) → need b no_timeout (expires_if st a f) ≡ need (b && is_none f) no_timeout moves
  expires_need false f = refl
  expires_need true none = refl
  expires_need true (some f) = refl

-- what its owner decides
expires_is : (code : List Op) (st : State) → is_unborn st.process.stage ≡ false → expires code st
    ≡ need (is_live st.process.stage && at_after code st.process.place && none_fits (take (get_or code st.process.place no_op).small (drop (st.process.place + 1) code)) st.mail) no_timeout
    (becomes st (moved st.process (behind_clauses code st.process.place).target))
unfolding expires expires_live
expires_is code st born = go st.process.stage born
  where
    t : ℕ
    t = st.process.place

    clauses : List Op
    clauses = take (get_or code t no_op).small (drop (t + 1) code)

    go : (s : Stage) → is_unborn s ≡ false → expires_in s code st ≡ need (is_live s && at_after code t && none_fits clauses st.mail) no_timeout
        (becomes st (moved st.process (behind_clauses code t).target))
    go Unborn u = absurd (true≢false u)
    go Live u = rw (sym (search_none clauses 0 st.mail)) (expires_need st (behind_clauses code t) (at_after code t) (search clauses 0 st.mail))
    go Closing u = refl
    go Gone u = refl

pub timeouts : Timeouts
unfolding rule ready numbered owner_born signal_waits decide pair_has_room number_free commit
timeouts n i sound = step_rule n (timeout i) sound ∙ numbers (is_number i) refl
  where
    numbers : (b : Bool) → is_number i ≡ b → rule n (timeout i) ≡ need b bad_number
        (need (not (is_unborn (process n i).stage)) owner_unborn (need (may_expire n i) no_timeout (done (expired_node n i))))
    numbers false e = rw e
    numbers true e = born (is_unborn (process n i).stage) refl
      where
        accepts : (b : Bool) → go_on (go_on (need b no_timeout (becomes (state n i) (moved (process n i) (behind_clauses (code n (process n i).behaviour.0) (process n i).place).target)))
            (λ e. need (pair_has_room n i e.sent) pair_full (done e))) (λ e. need (number_free n e.born) not_unborn (done (commit n (timeout i) e))) ≡ need b no_timeout (done (expired_node n i))
        accepts true = refl
        accepts false = refl

        born : (b : Bool) → is_unborn (process n i).stage ≡ b → rule n (timeout i) ≡ need (not b) owner_unborn (need (may_expire n i) no_timeout (done (expired_node n i)))
        born true u = rw (e, u)
        born false u = rw (e, u, expires_is (code n (process n i).behaviour.0) (state n i) u) (accepts (may_expire n i))
