-- What each guarantee comes to in plain cases: laws that follow from the words of its statement alone, taken as a premise, and that a weaker
-- statement would not give. Assumes nothing.
--   order_ends         Order: single steps in two orders, and a play with refused steps among them, end alike
--   calls_stay_sound   SoundKept: every list of calls leaves a sound node
--   play_none play_one PlayIsSteps: no step is a play of none, and one step is a play of one
--   refused_cause      every refusal of a numbered step with a born owner and a waiting signal has a cause
--   full_not_taken     Exclusive: 26 and 27 never meet, nor does either meet a refusal of the decision
--   never_back         Forward: none of the six ways back is taken
--   quiet_only         Quiet: a run is refused with 25 where its words say so and nowhere else, and no arrival and no timeout ever is
--   confused_only      Confused: the same of 29
--   run_or_timeout     Timeouts, Quiet and Confused: a run and a timeout of one owner are never both accepted
--   possible_once      InTurn: no possible step stands at two turns
--   suggested_steps    FirstOnOffer: a step that is suggested is accepted
--   not_later          FirstOnOffer: a step is never suggested while an earlier one would be accepted
--   run_before_timeout timeout_before_arrival owner_first
--                      of it the three plain cases: within one owner, and from an owner's last step to the next owner's first
--   none_means_stuck   NoneOnOffer: none is never suggested while a step would be accepted
--   other_kinds_aside  SameFit: document 01's search passes over a message of a kind that no clause can take
--   at_most_128        FewConsulted: within the limits of a plan at most 128 clauses are consulted
use mathlib.Core.Bool.{Bool, true, false, So, cond, not, ◌&&◌, true≢false, false≢true}
use mathlib.Core.List.{List, [], ◌∷◌}
use mathlib.Core.Logic.{inl, inr}
use mathlib.Core.Option.{none, some}
use mathlib.Core.Path.{◌≡◌, refl, sym, ◌∙◌, ap, subst}
use Prim.Native.Nat.{ℕ, zero, suc, ◌+◌, ◌≤◌, ◌<◌}
use native.Mathlib.Nat.{mul-le-mul_right}
use native.Mathlib.Omega.{arith}
use borrow.Author.Tests.{eqb-true, eq-eqb}
use lib.Dec.{eqb}
use lib.ListN.{length, get_or, take, drop}
use Rattle.node.specs.declared.Message.{Message}
use Rattle.node.specs.declared.Node.{Node}
use Rattle.node.specs.declared.Op.{Op}
use Rattle.node.specs.declared.Stage.{Stage}
use Rattle.node.specs.declared.Stage.TheVariants.{Unborn, Live, Closing, Gone}
use Rattle.node.specs.Nodes.{no_op}
use Rattle.node.specs.Ops.{recv_op}
use Rattle.node.specs.Values.{is_number, message_kind}
use Rattle.rules.specs.Answers.{Answer, refused, done, need, go_on, bad_number, owner_unborn, mailbox_empty, pair_full, not_unborn, no_timeout, no_fit}
use Rattle.rules.specs.Calls.{Call, single, schedule, node_behind, call_node, after}
use Rattle.rules.specs.Effects.{Effect}
use Rattle.rules.specs.Consult.{one_can_take, consulted, ops_of, clauses_of, at_recv}
use Rattle.rules.specs.Guarantees.{Order, SoundKept, Stopped, PlayIsSteps, Cause, undecided, full, taken, Exclusive, rank, Forward}
use Rattle.rules.specs.Guarantees.{may_expire, Timeouts, is_refusal, is_empty, Quiet, Confused}
use Rattle.rules.specs.Guarantees.{Earlier, turn_of, InTurn, FirstOnOffer, NoneOnOffer, SameFit, FewConsulted}
use Rattle.rules.specs.Nodes.{Sound, process, mailbox}
use Rattle.rules.specs.Receive.{search}
use Rattle.rules.specs.Steps.{Action, run, arrive, timeout, owner, is_unborn, numbered, owner_born, signal_waits, pair_has_room, number_free, commit, decide, ready, rule, step, play}
use Rattle.rules.specs.Suggest.{at_turn, acceptable, suggest}
use Rattle.rules.specs.Timeout.{at_after, is_live, none_fits}
use Rattle.rules.specs.Traces.{owned, Runs}
use Rattle.rules.proofs.Accepted.{need_done, step_rule}
use Rattle.rules.proofs.All.{both, parts}
use Rattle.rules.proofs.Sample.{started}
use Rattle.rules.proofs.Suggest.{acceptable_goes}
use Rattle.rules.proofs.Witness.{started_sound, early, late, mixed, early_steps, late_steps, mixed_steps}

-- ---- Order

-- the steps that process 1 has in a list, and those of process 2, by whether they are asked for
abbrev one : Bool → List Action → List Action
one a l = cond a (run 1 ∷ l) l

abbrev two : Bool → List Action → List Action
two b l =
    let last = cond b (run 2 ∷ l) l in
    let both = cond b (run 2 ∷ last) last in
    cond b (arrive 2 1 ∷ both) both

-- the steps of early and of late, by owner
by_owner : (i : ℕ) → owned owner i (run 1 ∷ run 1 ∷ run 1 ∷ run 1 ∷ arrive 2 1 ∷ run 2 ∷ run 2 ∷ []) ≡ owned owner i (run 1 ∷ run 1 ∷ run 1 ∷ arrive 2 1 ∷ run 2 ∷ run 2 ∷ run 1 ∷ [])
unfolding owned
by_owner i = go (eqb 1 i) refl (eqb 2 i) refl
  where
    go : (a : Bool) → eqb 1 i ≡ a → (b : Bool) → eqb 2 i ≡ b → one a (one a (one a (one a (two b [])))) ≡ one a (one a (one a (two b (one a []))))
    go true p true q =
        let x = eqb-true 1 i p in
        let y = eqb-true 2 i q in
        absurd (omega arith)
    go true p false q = refl
    go false p true q = refl
    go false p false q = refl

pub order_ends : Order → (after started early ≡ after started late) × (after started early ≡ after started mixed)
order_ends o = (o started started_sound early late (λ i a b. rw (early_steps, late_steps) (by_owner i)), o started started_sound early mixed (λ i a b. rw (early_steps, mixed_steps)))

-- ---- SoundKept

pub calls_stay_sound : SoundKept → (n : Node) → Sound n → (cs : List Call) → Sound (after n cs)
unfolding after call_node
calls_stay_sound k n s [] = s
calls_stay_sound k n s (schedule l ∷ cs) = calls_stay_sound k (play n l).node (k.1 n l s) cs
calls_stay_sound k n s (single a ∷ cs) = calls_stay_sound k (node_behind n (step n a)) (behind (step n a) refl) cs
  where
    behind : (x : Answer Node) → step n a ≡ x → Sound (node_behind n x)
    behind (refused j) e = s
    behind (done m) e = k.0 n m a e

-- ---- PlayIsSteps

-- what PlayIsSteps says of l
abbrev Said : Node → List Action → Type 0
Said n l =
    ((play n l).accepted ≤ length l) ×
    Runs step n (take (play n l).accepted l) (play n l).node ×
    Stopped (play n l).node (drop (play n l).accepted l) (play n l).refusal

pub play_none : PlayIsSteps → (n : Node) → Sound n → ((play n []).node ≡ n) × ((play n []).accepted ≡ 0) × ((play n []).refusal ≡ 0)
play_none p n s = go (play n []).accepted w.0 w.1 w.2
  where
    w : Said n []
    w = p n [] s (omega arith)

    go : (k : ℕ) → k ≤ 0 → Runs step n (take k []) (play n []).node → Stopped (play n []).node (drop k []) (play n []).refusal → ((play n []).node ≡ n) × (k ≡ 0) × ((play n []).refusal ≡ 0)
    go zero h x y = (sym x, refl, y)
    go (suc k) h x y = absurd (omega arith)

-- one step: accepted, with the node that it gives; or refused, with its number and the node as it was
abbrev One : Node → Action → Answer Node → ℕ → ℕ → Node → Type 0
One n a (refused j) k r m = (k ≡ 0) × (r ≡ j) × (m ≡ n)
One n a (done l) k r m = (k ≡ 1) × (r ≡ 0) × (m ≡ l)

pub play_one : PlayIsSteps → (n : Node) (a : Action) → Sound n → One n a (step n a) (play n (a ∷ [])).accepted (play n (a ∷ [])).refusal (play n (a ∷ [])).node
play_one p n a s = go (step n a) refl (play n (a ∷ [])).accepted (play n (a ∷ [])).refusal (play n (a ∷ [])).node w.0 w.1 w.2
  where
    w : Said n (a ∷ [])
    w = p n (a ∷ []) s (omega arith)

    go : (x : Answer Node) → step n a ≡ x → (k r : ℕ) (m : Node) → k ≤ 1 → Runs step n (take k (a ∷ [])) m → Stopped m (drop k (a ∷ [])) r → One n a x k r m
    go (refused j) e zero r m h x y = let q : refused r ≡ refused j = sym (ap (λ (l : Node). step l a) x ∙ y) ∙ e in (refl, cc q, sym x)
    go (refused j) e (suc zero) r m h x y = absurd (let z : ◌≡◌ {A = ℕ} 0 1 = cc (x.1, e) in omega arith)
    go (refused j) e (suc (suc k)) r m h x y = absurd (omega arith)
    go (done l) e zero r m h x y = absurd (let q : refused r ≡ done l = sym (ap (λ (l : Node). step l a) x ∙ y) ∙ e in let z : ◌≡◌ {A = ℕ} 0 1 = cc q in omega arith)
    go (done l) e (suc zero) r m h x y = let q : x.0 ≡ l = cc (x.1, e) in (refl, y, sym x.2 ∙ q)
    go (done l) e (suc (suc k)) r m h x y = absurd (omega arith)

-- ---- Exclusive

pub refused_cause : (n : Node) (a : Action) (k : ℕ) → Sound n → So (numbered a) → So (owner_born n a) → So (signal_waits n a) → step n a ≡ refused k → Cause n a k
unfolding rule ready
refused_cause n a k s x y z h = decided (decide n a) refl (rw (x, y, z) at (sym (step_rule n a s) ∙ h))
  where
    freed : (e : Effect) → decide n a ≡ done e → (b : Bool) → number_free n e.born ≡ b → need b not_unborn (done (commit n a e)) ≡ refused k → Cause n a k
    freed e d true f g = absurd (let z : ◌≡◌ {A = ℕ} 0 1 = cc g in omega arith)
    freed e d false f g = let q : not_unborn ≡ k = cc g in subst (Cause n a) q (taken d f)

    roomy : (e : Effect) → decide n a ≡ done e → (b : Bool) → pair_has_room n (owner a) e.sent ≡ b →
        go_on (need b pair_full (done e)) (λ e. need (number_free n e.born) not_unborn (done (commit n a e))) ≡ refused k → Cause n a k
    roomy e d true f g = freed e d (number_free n e.born) refl g
    roomy e d false f g = let q : pair_full ≡ k = cc g in subst (Cause n a) q (full d f)

    decided : (x : Answer Effect) → decide n a ≡ x →
        go_on (go_on x (λ e. need (pair_has_room n (owner a) e.sent) pair_full (done e))) (λ e. need (number_free n e.born) not_unborn (done (commit n a e))) ≡ refused k → Cause n a k
    decided (refused j) d g = let q : j ≡ k = cc g in undecided (rw q at d)
    decided (done e) d g = roomy e d (pair_has_room n (owner a) e.sent) refl g

module _ (x : Exclusive) (n : Node) (a : Action) (s : Sound n) (numbers : So (numbered a)) (waits : So (signal_waits n a)) where
  pub full_not_taken : (e : Effect) → decide n a ≡ done e → pair_has_room n (owner a) e.sent ≡ false → number_free n e.born ≡ false → ⊥
  full_not_taken e d r f = let q : pair_full ≡ not_unborn = x n a s numbers waits pair_full not_unborn (full d r) (taken d f) in omega (arith, q)

-- ---- Forward

-- from the first stage back to the second
pub data Back : Stage → Stage → Type 0 where
  live_unborn : Back Live Unborn
  closing_unborn : Back Closing Unborn
  gone_unborn : Back Gone Unborn
  closing_live : Back Closing Live
  gone_live : Back Gone Live
  gone_closing : Back Gone Closing

back_rank : (s t : Stage) → Back s t → rank t < rank s
back_rank s t live_unborn = omega arith
back_rank s t closing_unborn = omega arith
back_rank s t gone_unborn = omega arith
back_rank s t closing_live = omega arith
back_rank s t gone_live = omega arith
back_rank s t gone_closing = omega arith

pub never_back : Forward → (n m : Node) (a : Action) → step n a ≡ done m → (i : ℕ) → Back (process n i).stage (process m i).stage → ⊥
never_back f n m a h i b =
    let x = f n m a h i in
    let y = back_rank (process n i).stage (process m i).stage b in
    omega arith

-- ---- Quiet and Confused

-- an answer that is refusal k exactly where b is set, both ways
refusal_is : (k : ℕ) (x : Answer Node) (b : Bool) → is_refusal k x ≡ b → (x ≡ refused k → So b) × (So b → x ≡ refused k)
refusal_is k x b e = (λ h. sym e ∙ ap (is_refusal k) h ∙ eq-eqb k k refl, back x e)
  where
    back : (x : Answer Node) → is_refusal k x ≡ b → So b → x ≡ refused k
    back (refused m) e h = ap refused (eqb-true m k (e ∙ h))
    back (done m) e h = absurd (false≢true (e ∙ h))

-- the run of i is refused with k exactly where b is set; its arrival from j and its timeout are not
abbrev Only : ℕ → Node → ℕ → ℕ → Bool → Type 0
Only k n i j b =
    (step n (run i) ≡ refused k → So b) × (So b → step n (run i) ≡ refused k) ×
    (step n (arrive i j) ≡ refused k → ⊥) × (step n (timeout i) ≡ refused k → ⊥)

only : (k : ℕ) (n : Node) (i j : ℕ) (b : Bool) → is_refusal k (step n (run i)) ≡ b → is_refusal k (step n (arrive i j)) ≡ false → is_refusal k (step n (timeout i)) ≡ false → Only k n i j b
only k n i j b r a t =
    let w = refusal_is k (step n (run i)) b r in
    (w.0, w.1, λ h. false≢true ((refusal_is k (step n (arrive i j)) false a).0 h), λ h. false≢true ((refusal_is k (step n (timeout i)) false t).0 h))

pub quiet_only : Quiet → (n : Node) (i j : ℕ) → Sound n → Only mailbox_empty n i j (at_recv n i && is_empty (mailbox n i))
quiet_only q n i j s = only mailbox_empty n i j _ (q n (run i) s) (q n (arrive i j) s) (q n (timeout i) s)

pub confused_only : Confused → (n : Node) (i j : ℕ) → Sound n → Only no_fit n i j (at_recv n i && not (is_empty (mailbox n i)) && none_fits (clauses_of n i) (mailbox n i))
confused_only q n i j s = only no_fit n i j _ (q n (run i) s) (q n (arrive i j) s) (q n (timeout i) s)

-- where the owner may give up, its run is refused with 25 or 29
pub run_or_timeout : Timeouts → Quiet → Confused → (n m l : Node) (i : ℕ) → Sound n → step n (timeout i) ≡ done m → step n (run i) ≡ done l → ⊥
unfolding at_after
run_or_timeout t q c n m l i s h g = go (is_empty (mailbox n i)) refl
  where
    known : So (is_number i) × So (may_expire n i)
    known =
        let x = need_done (is_number i) bad_number _ (sym (t n i s) ∙ h) in
        let y = need_done (not (is_unborn (process n i).stage)) owner_unborn _ x.1 in
        (x.0, (need_done (may_expire n i) no_timeout _ y.1).0)

    refusal : {k : ℕ} → step n (run i) ≡ refused k → ⊥
    refusal e = let z : ◌≡◌ {A = ℕ} 0 1 = cc (sym e ∙ g) in omega arith

    waits : So (at_recv n i) × So (none_fits (clauses_of n i) (mailbox n i))
    waits =
        let all = parts (is_live (process n i).stage && at_after (ops_of n i) (process n i).place) (none_fits (clauses_of n i) (mailbox n i)) known.1 in
        let here = parts (is_live (process n i).stage) (at_after (ops_of n i) (process n i).place) all.0 in
        let recv = parts (eqb (get_or (ops_of n i) (process n i).place no_op).number recv_op) _ here.1 in
        (both (both known.0 here.0) recv.0, all.1)

    go : (b : Bool) → is_empty (mailbox n i) ≡ b → ⊥
    go true e = refusal ((quiet_only q n i i s).1 (both waits.0 e))
    go false e = refusal ((confused_only c n i i s).1 (both (both waits.0 (ap not e)) waits.1))

-- ---- InTurn, FirstOnOffer and NoneOnOffer

pub possible_once : InTurn → (j k : ℕ) → j < 288 → k < 288 → at_turn j ≡ at_turn k → j ≡ k
possible_once t j k h g e = sym (t.2 j h).1 ∙ ap turn_of e ∙ (t.2 k g).1

module _ (f : FirstOnOffer) (n : Node) where
  pub suggested_steps : (a : Action) → suggest n ≡ done (some a) → (m : Node) × (step n a ≡ done m)
  suggested_steps a e = acceptable_goes n a ((f n a).0 e).0

  pub not_later : (a b : Action) → Earlier a b → So (acceptable n a) → suggest n ≡ done (some b) → ⊥
  not_later a b l h e = true≢false (sym h ∙ ((f n b).0 e).1 a l)

  pub run_before_timeout : (i : ℕ) → So (acceptable n (run i)) → suggest n ≡ done (some (timeout i)) → ⊥
  run_before_timeout i = not_later (run i) (timeout i) (inr (refl, omega arith))

  pub timeout_before_arrival : (i j : ℕ) → 1 ≤ j → So (acceptable n (timeout i)) → suggest n ≡ done (some (arrive i j)) → ⊥
  timeout_before_arrival i j h = not_later (timeout i) (arrive i j) (inr (refl, omega arith))

  pub owner_first : So (acceptable n (arrive 1 16)) → suggest n ≡ done (some (run 2)) → ⊥
  owner_first = not_later (arrive 1 16) (run 2) (inl (omega arith))

pub none_means_stuck : NoneOnOffer → (n : Node) → Sound n → (a : Action) → So (acceptable n a) → suggest n ≡ done none → ⊥
none_means_stuck f n s a h e = true≢false (sym h ∙ (f n s).0 e a)

-- ---- SameFit and FewConsulted

pub other_kinds_aside : SameFit → (cs : List Op) (i : ℕ) (m : Message) (ms : List Message) → one_can_take cs (message_kind m) ≡ false → search cs i (m ∷ ms) ≡ search cs (i + 1) ms
other_kinds_aside f cs i m ms h = sym (f cs i (m ∷ ms)) ∙ rw h (f cs (i + 1) ms)

pub at_most_128 : FewConsulted → (cs : List Op) (ms : List Message) → length cs ≤ 8 → length ms ≤ 16 → consulted cs ms ≤ 128
at_most_128 f cs ms few some-mail =
    let all = (f cs).1 ms in
    let each = mul-le-mul_right (length cs) some-mail in
    omega (arith, all, each, few)
