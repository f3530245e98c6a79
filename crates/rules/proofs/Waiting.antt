-- A run of a process at a recv: 25 and 29, each exactly where its words say so. Assumes nothing.
--   waits            both at once: a step of a sound node is refused with 25 or 29 exactly where it is a run at a recv whose search tells
--                    that number
--   quiet confused   the guarantees
use mathlib.Core.Bool.{Bool, true, false, So, not, ◌&&◌, true≢false, false≢true, and_assoc}
use mathlib.Core.List.{List, [], ◌∷◌}
use mathlib.Core.Logic.{inl, inr}
use mathlib.Core.Option.{Option, none, some}
use mathlib.Core.Path.{◌≡◌, refl, sym, ◌∙◌, ap}
use Prim.Native.Nat.{ℕ}
use native.Mathlib.Omega.{arith}
use borrow.Author.Tests.{lt-leb, eqb-true, ne_eqb}
use lib.Dec.{eqb}
use lib.ListN.{length, get_or}
use Rattle.node.specs.declared.Message.{Message}
use Rattle.node.specs.declared.Node.{Node}
use Rattle.node.specs.declared.Op.{Op}
use Rattle.node.specs.declared.Stage.{Stage}
use Rattle.node.specs.declared.Stage.TheVariants.{Unborn, Live, Closing, Gone}
use Rattle.node.specs.Nodes.{no_op}
use Rattle.node.specs.Ops.{recv_op}
use Rattle.node.specs.Values.{is_number}
use Rattle.rules.specs.Answers.{Answer, refused, done, mailbox_empty, no_fit}
use Rattle.rules.specs.Effects.{State}
use Rattle.rules.specs.Consult.{ops_of, clauses_of, at_recv}
use Rattle.rules.specs.Guarantees.{is_refusal, is_empty, Quiet, Confused}
use Rattle.rules.specs.Nodes.{Sound, process, mailbox}
use Rattle.rules.specs.Receive.{Fit, search, first_fit, Searched, silent, unfit, fit, answered, receives_by, receives}
use Rattle.rules.specs.Run.{runs_op, runs_live, runs}
use Rattle.rules.specs.Steps.{Action, run, arrive, timeout, owner, state, numbered, owner_born, signal_waits, pair_has_room, number_free, decide, ready, rule, step}
use Rattle.rules.specs.Timeout.{is_live, none_fits}
use Rattle.rules.proofs.Accepted.{step_rule}
use Rattle.rules.proofs.All.{parts}
use Rattle.rules.proofs.Expiry.{is_none, search_none}
use Rattle.rules.proofs.Refusals.{recv_run, rule_named}
use Rattle.rules.proofs.Runs.{Receives}
use Rattle.rules.proofs.Timeouts.{inside_of}
use Rattle.rules.proofs.Told.{Told, Common, Waits, Named, common_parts}

-- what the search of its mailbox answers to process i, which is at a recv
abbrev searched : Node → ℕ → Searched
searched n i = answered (search (clauses_of n i) 0 (mailbox n i)) (mailbox n i)

live_is : (s : Stage) → is_live s ≡ true → s ≡ Live
live_is Unborn e = absurd (false≢true e)
live_is Live e = refl
live_is Closing e = absurd (false≢true e)
live_is Gone e = absurd (false≢true e)

-- a run of a live process at a recv is what the search says
runs_recv : (code : List Op) (i : ℕ) (st : State) → Receives code i st → runs code i st ≡ receives_by st (answered (first_fit code st (get_or code st.process.place no_op)) st.mail)
unfolding runs runs_live runs_op receives
runs_recv code i st r = rw (r.0, lt-leb (length code) st.process.place (inside_of code st.process.place recv_op r.1 (omega arith)), r.1)

-- what the search answers is told by number k
abbrev tells : ℕ → Searched → Bool
tells k silent = eqb mailbox_empty k
tells k unfit = eqb no_fit k
tells k (fit f) = false

-- a message that is received sends nothing and brings nobody to life, so neither 26 nor 27 can follow
rule_recv : (k : ℕ) (n : Node) (i : ℕ) → So (is_number i) → (process n i).stage ≡ Live → (s : Searched) → decide n (run i) ≡ receives_by (state n i) s → is_refusal k (rule n (run i)) ≡ tells k s
unfolding rule ready numbered owner_born signal_waits pair_has_room number_free
rule_recv k n i h l silent d = rw (h, l, d)
rule_recv k n i h l unfit d = rw (h, l, d)
rule_recv k n i h l (fit f) d = rw (h, l, d)

-- a run at a recv
recv_told : (k : ℕ) (n : Node) (a : Action) → So (recv_run n a) → is_refusal k (rule n a) ≡ tells k (searched n (owner a))
unfolding decide
recv_told k n (run i) e =
    let v = parts (is_number i && is_live (process n i).stage) (eqb (get_or (ops_of n i) (process n i).place no_op).number recv_op) e in
    let w = parts (is_number i) (is_live (process n i).stage) v.0 in
    let l = live_is (process n i).stage w.1 in
    rule_recv k n i w.0 l (searched n i) (runs_recv (ops_of n i) i (state n i) (l, eqb-true _ _ v.1))
recv_told k n (arrive i j) e = absurd (false≢true e)
recv_told k n (timeout i) e = absurd (false≢true e)

-- every other number of the schedule writer is neither of the two
common_not : (k m : ℕ) → Waits k → Common m → eqb m k ≡ false
common_not k m (inl e) h = rw e (common_parts m h).2
common_not k m (inr e) h = rw e (ne_eqb m no_fit (λ q. omega (arith, (common_parts m h).1, q)))

-- any other step
not_told : (k : ℕ) → Waits k → (R : Type 0) → (R → ⊥) → (x : Answer Node) → Told (Named R) x → is_refusal k x ≡ false
not_told k w R f (refused m) (inl h) = common_not k m w h
not_told k w R f (refused m) (inr h) = absurd (f h.1)
not_told k w R f (done m) h = refl

waits : (k : ℕ) → Waits k → (n : Node) (a : Action) → Sound n → is_refusal k (step n a) ≡ (recv_run n a && tells k (searched n (owner a)))
waits k w n a s = ap (is_refusal k) (step_rule n a s) ∙ go (recv_run n a) refl
  where
    go : (b : Bool) → recv_run n a ≡ b → is_refusal k (rule n a) ≡ (b && tells k (searched n (owner a)))
    go true e = recv_told k n a e
    go false e = not_told k w (So (recv_run n a)) (λ r. true≢false (sym r ∙ e)) (rule n a) (rule_named n a)

-- ---- the guarantees

-- the search of a mailbox with messages
full_told : (f : Option Fit) (m : Message) (ms : List Message) → (tells mailbox_empty (answered f (m ∷ ms)) ≡ false) × (tells no_fit (answered f (m ∷ ms)) ≡ is_none f)
full_told none m ms = (refl, refl)
full_told (some f) m ms = (refl, refl)

silent_told : (cs : List Op) (ms : List Message) → tells mailbox_empty (answered (search cs 0 ms) ms) ≡ is_empty ms
silent_told cs [] = refl
silent_told cs (m ∷ ms) = (full_told (search cs 0 (m ∷ ms)) m ms).0

unfit_told : (cs : List Op) (ms : List Message) → tells no_fit (answered (search cs 0 ms) ms) ≡ (not (is_empty ms) && none_fits cs ms)
unfit_told cs [] = refl
unfit_told cs (m ∷ ms) = (full_told (search cs 0 (m ∷ ms)) m ms).1 ∙ search_none cs 0 (m ∷ ms)

pub quiet : Quiet
quiet n (run i) s = waits mailbox_empty (inl refl) n (run i) s ∙ ap (λ b. at_recv n i && b) (silent_told (clauses_of n i) (mailbox n i))
quiet n (arrive i j) s = waits mailbox_empty (inl refl) n (arrive i j) s
quiet n (timeout i) s = waits mailbox_empty (inl refl) n (timeout i) s

pub confused : Confused
confused n (run i) s =
    waits no_fit (inr refl) n (run i) s ∙ ap (λ b. at_recv n i && b) (unfit_told (clauses_of n i) (mailbox n i))
    ∙ sym (and_assoc (at_recv n i) (not (is_empty (mailbox n i))) (none_fits (clauses_of n i) (mailbox n i)))
confused n (arrive i j) s = waits no_fit (inr refl) n (arrive i j) s
confused n (timeout i) s = waits no_fit (inr refl) n (timeout i) s
