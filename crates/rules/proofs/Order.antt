-- The guarantees of specs/Guarantees.antt: the order guarantee, soundness kept, refusals that exclude each other, stages that go forward.
-- Assumes nothing.
use mathlib.Core.Bool.{Bool, true, false, not, So, cond, false≢true}
use mathlib.Core.List.{List, [], ◌∷◌}
use mathlib.Core.Logic.{◌≢◌}
use mathlib.Core.Option.{Option, none, some}
use mathlib.Core.Path.{◌≡◌, refl, sym, ◌∙◌, ap}
use Prim.Native.Nat.{ℕ, zero, suc, ◌-◌, ◌≤◌}
use native.Mathlib.Numerals.{add-one}
use native.Mathlib.Omega.{arith}
use lib.Dec.{ltb}
use lib.ListN.{length, get_or, set, take, drop}
use lib.Seq.{get_or-set_other}
use Rattle.node.specs.declared.Node.{Node}
use Rattle.node.specs.declared.Process.{Process}
use Rattle.node.specs.declared.Signal.{Signal}
use Rattle.node.specs.declared.Stage.{Stage}
use Rattle.node.specs.declared.Stage.TheVariants.{Unborn, Live, Closing, Gone}
use Rattle.node.specs.Nodes.{no_process}
use Rattle.node.specs.Processes.{gone, unlinked, unwatched}
use Rattle.rules.specs.Answers.{Answer, refused, done, not_sound, schedule_too_long}
use Rattle.rules.specs.Calls.{Call, single, schedule, node_behind, if_accepted, call_node, call_steps, after, accepted, accepted_by}
use Rattle.rules.specs.Effects.{Effect, Sending, Birth, State}
use Rattle.rules.specs.Guarantees.{Order, SoundKept, Stopped, PlayIsSteps, undecided, full, taken, Exclusive, rank, Forward}
use Rattle.rules.specs.Nodes.{sound, Sound, Equal, view, behaviours_of, code, process, mailbox}
use Rattle.rules.specs.Arrive.{answers, arrives_in, arrives}
use Rattle.rules.specs.Run.{closes, runs_in, runs}
use Rattle.rules.specs.Steps.{Action, run, arrive, timeout, owner, is_unborn, owner_born, pair_has_room, number_free, with_birth, state, incoming, commit, decide, step, plays_on, played, play}
use Rattle.rules.specs.Timeout.{expires_in, expires}
use Rattle.rules.specs.Traces.{Runs}
use Rattle.rules.proofs.Cases.{closes_any, answers_any}
use Rattle.rules.proofs.Accepted.{Act, goes_rule, step_rule, step_goes}
use Rattle.rules.proofs.Commute.{act_kept, free_back, free_on, Off, free_off, off_a, commits_swap}
use Rattle.rules.proofs.Keeps.{Keeps, NotBoth}
use Rattle.rules.proofs.Commits.{parts_of, decided_keeps, act_keeps, step_sound, play_sound, play_played, owner_number}
use Rattle.rules.proofs.Records.{number_bounds}
use Rattle.rules.proofs.Trace.{runs_append, Laws, order_runs}

-- ---- the laws of steps

-- the numbers of the owners
abbrev Owner : ℕ → Type 0
Owner i = (1 ≤ i) × (i ≤ 16)

Ready : Node → Action → Type 0
Ready n a = (e : Effect) × Act n a e

swaps : (n m k : Node) (a b : Action) → Sound n → owner a ≢ owner b → Ready n a → step n b ≡ done m → step m a ≡ done k → (l : Node) × (step n a ≡ done l) × (step l b ≡ done k)
unfolding Ready
swaps n m k a b w h r p q =
    let parts = parts_of n w in
    let z = parts.sized in
    let x = (step_goes n b m p).1 in
    let e = r.0 in
    let f = x.effect in
    let s = r.1 in
    let t = x.act in
    let ek = act_keeps n a e parts s in
    let fk = act_keeps n b f parts t in
    let y = (step_goes (commit n b f) a k (rw x.to at q)).1 in
    let c = act_kept n z a b e f h s t ek fk x.free in
    let d : y.effect ≡ e = cc (y.act.decided, c.decided) in
    let free : So (number_free (commit n b f) e.born) = rw d at y.free in
    let back = free_back n z a b e f h s t ek fk x.free free e.born free in
    let l = commit n a e in
    let first : step n a ≡ done l = step_rule n a w ∙ goes_rule n a e s back.1 in
    let behind : Act l b f = act_kept n z b a f e (λ o. h (sym o)) t s fk ek back.1 in
    let still : So (number_free l f.born) = free_on n z a b e f h s t ek fk x.free free f.born x.free (off_a n z a b e f h s t ek fk x.free) back.2 in
    let second : step l b ≡ done (commit l b f) = step_rule l b (step_sound n l a first) ∙ goes_rule l b f behind still in
    let same : commit l b f ≡ k = commits_swap n z a b e f h s t ek fk x.free free ∙ ap (commit (commit n b f) a) (sym d) ∙ sym y.to in
    (l, first, second ∙ ap done same)

laws : Laws step owner Owner Sound Ready
unfolding Ready
laws = record {
  owns = λ n m a p. number_bounds (owner a) (owner_number a (step_goes n a m p).1.act.numbers);
  sound = λ n m a w p. step_sound n m a p;
  ready = λ n m a w p. let x = (step_goes n a m p).1 in (x.effect, x.act);
  keeps = λ n m a b w h r p.
      let x = (step_goes n b m p).1 in
      let parts = parts_of n w in
      (r.0, rw x.to (act_kept n parts.sized a b r.0 x.effect h r.1 x.act (act_keeps n a r.0 parts r.1) (act_keeps n b x.effect parts x.act) x.free));
  swaps = swaps;
}

-- ---- lists of calls

-- a play runs through the steps that it accepts
played_runs : (n : Node) (l : List Action) → Runs step n (take (played n l).accepted l) (played n l).node
unfolding played
played_runs n [] = refl
played_runs n (a ∷ l) = go (step n a) refl (λ m. played_runs m l)
  where
    go : (o : Answer Node) → step n a ≡ o → ((m : Node) → Runs step m (take (played m l).accepted l) (played m l).node) → Runs step n (take (plays_on n o (λ m. played m l)).accepted (a ∷ l))
        (plays_on n o (λ m. played m l)).node
    go (refused k) e f = refl
    go (done m) e f = rw add-one (m, e, f m)

play_runs : (n : Node) (l : List Action) → Runs step n (take (play n l).accepted l) (play n l).node
unfolding play
play_runs n l = go (not (sound n)) (ltb 4096 (length l))
  where
    go : (x y : Bool) → Runs step n
        (take (cond x (record { accepted = 0; refusal = not_sound; node = n }) (cond y (record { accepted = 0; refusal = schedule_too_long; node = n }) (played n l))).accepted l)
        (cond x (record { accepted = 0; refusal = not_sound; node = n }) (cond y (record { accepted = 0; refusal = schedule_too_long; node = n }) (played n l))).node
    go true y = refl
    go false true = refl
    go false false = played_runs n l

call_runs : (n : Node) (c : Call) → Runs step n (call_steps n c) (call_node n c)
unfolding call_steps call_node
call_runs n (single a) = go (step n a) refl
  where
    go : (o : Answer Node) → step n a ≡ o → Runs step n (if_accepted o a) (node_behind n o)
    go (refused k) e = refl
    go (done m) e = (m, e, refl)
call_runs n (schedule l) = play_runs n l

calls_run : (n : Node) (cs : List Call) → Runs step n (accepted n cs) (after n cs)
unfolding accepted after
calls_run n [] = refl
calls_run n (c ∷ cs) = runs_append step n (call_node n c) _ (call_steps n c) _ (call_runs n c) (calls_run (call_node n c) cs)

-- ---- the guarantees

pub order : Order
order n s a b h = order_runs step owner Owner Sound Ready laws n _ _ (accepted n a) (accepted n b) s (calls_run n a) (calls_run n b) (λ i o. h i o.0 o.1)

-- the same in document 01's words: equal nodes
pub order_equal : (n : Node) → Sound n → (a b : List Call) → ((i : ℕ) → 1 ≤ i → i ≤ 16 → accepted_by i n a ≡ accepted_by i n b) → Equal (after n a) (after n b)
order_equal n s a b h = ap view (order n s a b h)

pub sound_kept : SoundKept
sound_kept = (step_sound, play_sound)

-- a play stops at the end, or where the next step is refused
played_stops : (n : Node) (l : List Action) → Stopped (played n l).node (drop (played n l).accepted l) (played n l).refusal
unfolding played
played_stops n [] = refl
played_stops n (a ∷ l) = go (step n a) refl (λ m. played_stops m l)
  where
    go : (o : Answer Node) → step n a ≡ o → ((m : Node) → Stopped (played m l).node (drop (played m l).accepted l) (played m l).refusal) → Stopped (plays_on n o (λ m. played m l)).node
        (drop (plays_on n o (λ m. played m l)).accepted (a ∷ l)) (plays_on n o (λ m. played m l)).refusal
    go (refused k) e f = e
    go (done m) e f = rw add-one (f m)

-- and accepts no more steps than there are
pub played_count : (n : Node) (l : List Action) → (played n l).accepted ≤ length l
unfolding played
played_count n [] = omega arith
played_count n (a ∷ l) = go (step n a) (λ m. played_count m l)
  where
    go : (o : Answer Node) → ((m : Node) → (played m l).accepted ≤ length l) → (plays_on n o (λ m. played m l)).accepted ≤ length (a ∷ l)
    go (refused k) f = omega arith
    go (done m) f = let h = f m in omega arith

pub play_is_steps : PlayIsSteps
play_is_steps n l s h = rw (play_played n l s h) (played_count n l, played_runs n l, played_stops n l)

-- ---- refusals exclude each other

no_full : (n : Node) (i : ℕ) (o : Option Sending) → pair_has_room n i o ≡ false → (b : Option Birth) → number_free n b ≡ false → NotBoth o b → ⊥
unfolding pair_has_room number_free
no_full n i none r b f h = false≢true (sym r)
no_full n i (some x) r none f h = false≢true (sym f)
no_full n i (some x) r (some b) f h = h

pub exclusive : Exclusive
exclusive n a s m w k l (undecided p) (undecided q) = cc (p, q)
exclusive n a s m w k l (undecided p) (full q r) = absurd (let z : ◌≡◌ {A = ℕ} 0 1 = cc (p, q) in omega arith)
exclusive n a s m w k l (undecided p) (taken q f) = absurd (let z : ◌≡◌ {A = ℕ} 0 1 = cc (p, q) in omega arith)
exclusive n a s m w k l (full p r) (undecided q) = absurd (let z : ◌≡◌ {A = ℕ} 0 1 = cc (p, q) in omega arith)
exclusive n a s m w k l (full p r) (full q t) = refl
exclusive n a s m w k l (full {e = e} p r) (taken {e = g} q f) =
    let d : g ≡ e = cc (p, q) in
    absurd (no_full n (owner a) e.sent r e.born (rw d at f) (decided_keeps n a e (parts_of n s) m w p).apart)
exclusive n a s m w k l (taken p f) (undecided q) = absurd (let z : ◌≡◌ {A = ℕ} 0 1 = cc (p, q) in omega arith)
exclusive n a s m w k l (taken {e = e} p f) (full {e = g} q r) =
    let d : g ≡ e = cc (p, q) in
    absurd (no_full n (owner a) e.sent (rw d at r) e.born f (decided_keeps n a e (parts_of n s) m w p).apart)
exclusive n a s m w k l (taken p f) (taken q g) = refl

-- ---- stages go forward

born_rank : (s : Stage) → is_unborn s ≡ false → 1 ≤ rank s
born_rank Unborn h = absurd (false≢true (sym h))
born_rank Live h = omega arith
born_rank Closing h = omega arith
born_rank Gone h = omega arith

unborn_rank : (s : Stage) {k : ℕ} → So (is_unborn s) → rank s ≤ k
unborn_rank Unborn h = omega arith
unborn_rank Live h = absurd (false≢true h)
unborn_rank Closing h = absurd (false≢true h)
unborn_rank Gone h = absurd (false≢true h)

-- the owner's next process, where a decision accepts
process_of : Answer Effect → Process
process_of (refused k) = no_process
process_of (done e) = e.process

set_forward : (l : List Process) (k i : ℕ) (p : Process) → rank (get_or l k no_process).stage ≤ rank p.stage → rank (get_or l i no_process).stage ≤ rank (get_or (set l k p) i no_process).stage
set_forward [] k i p h = omega arith
set_forward (x ∷ l) zero zero p h = h
set_forward (x ∷ l) zero (suc i) p h = omega arith
set_forward (x ∷ l) (suc k) zero p h = omega arith
set_forward (x ∷ l) (suc k) (suc i) p h = set_forward l k i p h

-- a closing process stays closing or is gone
closes_rank : (st : State) (e : Effect) → st.process.stage ≡ Closing → closes st ≡ done e → 2 ≤ rank e.process.stage
unfolding gone unlinked unwatched process_of
closes_rank st e c = closes_any st (λ x. x ≡ done e → 2 ≤ rank e.process.stage)
    (λ q. let d : gone st.process ≡ e.process = ap process_of q in rw (← d) (omega arith))
    (λ j n q. let d : unlinked st.process j ≡ e.process = ap process_of q in rw (← d, c) (omega arith))
    (λ j n q. let d : unwatched st.process j ≡ e.process = ap process_of q in rw (← d, c) (omega arith))

-- an ended process is as it was behind an arrival
answers_same : (st : State) (e : Effect) (j : ℕ) (x : Signal) → answers j st x ≡ done e → st.process ≡ e.process
unfolding process_of
answers_same st e j x = answers_any st (λ y. y ≡ done e → st.process ≡ e.process) j (λ q. ap process_of q) (λ q. ap process_of q) x

-- an owner's stage goes forward
owner_forward : (n : Node) (a : Action) (e : Effect) → Keeps (behaviours_of n) (owner a) (mailbox n (owner a)) e → So (owner_born n a) → decide n a ≡ done e → rank (process n (owner a)).stage ≤ rank
    e.process.stage
unfolding decide owner_born runs expires arrives process_of
owner_forward n (run i) e k w h = go (process n i).stage refl h
  where
    go : (s : Stage) → (process n i).stage ≡ s → runs_in s (code n (process n i).behaviour.0) i (state n i) ≡ done e → rank s ≤ rank e.process.stage
    go Unborn q h = omega arith
    go Live q h = born_rank e.process.stage k.born
    go Closing q h = closes_rank (state n i) e q h
    go Gone q h = absurd (let z : ◌≡◌ {A = ℕ} 0 1 = cc h in omega arith)
owner_forward n (timeout i) e k w h = go (process n i).stage refl h
  where
    go : (s : Stage) → (process n i).stage ≡ s → expires_in s (code n (process n i).behaviour.0) (state n i) ≡ done e → rank s ≤ rank e.process.stage
    go Unborn q h = omega arith
    go Live q h = born_rank e.process.stage k.born
    go Closing q h = absurd (let z : ◌≡◌ {A = ℕ} 0 1 = cc h in omega arith)
    go Gone q h = absurd (let z : ◌≡◌ {A = ℕ} 0 1 = cc h in omega arith)
owner_forward n (arrive i j) e k w h = go (process n i).stage refl h
  where
    go : (s : Stage) → (process n i).stage ≡ s → arrives_in s i j (state n i) (incoming n j i) ≡ done e → rank s ≤ rank e.process.stage
    go Unborn q h = omega arith
    go Live q h = born_rank e.process.stage k.born
    go Closing q h = let d : process n i ≡ e.process = answers_same (state n i) e j (incoming n j i) h in rw (← d, q) (omega arith)
    go Gone q h = let d : process n i ≡ e.process = answers_same (state n i) e j (incoming n j i) h in rw (← d, q) (omega arith)

birth_forward : (n : Node) (a : Action) (p : Process) (o : Option Birth) → So (number_free n o) → So (owner_born n a) → (i : ℕ) → rank (get_or (set n.processes (owner a - 1) p) i no_process).stage ≤
    rank (get_or (with_birth (set n.processes (owner a - 1) p) o) i no_process).stage
unfolding owner_born number_free Off
birth_forward n a p none f w i = omega arith
birth_forward n a p (some b) f w i =
    let off : owner a - 1 ≢ b.number - 1 = free_off n (some b) (owner a - 1) f w in
    let same = get_or-set_other n.processes (owner a - 1) (b.number - 1) p no_process (λ q. off (sym q)) in
    set_forward (set n.processes (owner a - 1) p) (b.number - 1) i b.process (rw same (unborn_rank (process n b.number).stage f))

pub forward : Forward
unfolding commit
forward n m a h i =
    let w = step_goes n a m h in
    let g = w.1 in
    let e = g.effect in
    let k = act_keeps n a e (parts_of n w.0) g.act in
    let x = set_forward n.processes (owner a - 1) (i - 1) e.process (owner_forward n a e k g.act.awake g.act.decided) in
    let y = birth_forward n a e.process e.born g.free g.act.awake (i - 1) in
    rw g.to (omega arith)
