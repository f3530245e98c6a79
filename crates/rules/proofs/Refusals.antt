-- A rule refuses with 20 to 29, so no play of a sound node tells 31: a play tells 31 exactly where the node is not sound. Assumes nothing.
--   rule_named rule_told  the numbers of a rule, of which 25 and 29 are told of a run at a recv only
--   told_31 not_told_31   31 is told by a play exactly where the node is not sound
--   refusal_most accepted_most   the numbers of a play of a sound node end at 32, the count of every play at 4,096
use mathlib.Core.Bool.{Bool, true, false, So, cond, not}
use mathlib.Core.List.{List, [], ◌∷◌}
use mathlib.Core.Logic.{inl}
use mathlib.Core.Path.{◌≡◌, refl, sym, ◌∙◌, ap, subst}
use Prim.Native.Nat.{ℕ, ◌≤◌}
use native.Mathlib.Omega.{arith}
use borrow.Author.Tests.{ltb-false, eq-eqb}
use lib.Dec.{ltb}
use lib.ListN.{length, drop}
use Rattle.node.specs.declared.Node.{Node}
use Rattle.rules.specs.Answers.{refused, bad_number, owner_unborn, none_in_flight, pair_full, not_unborn, no_fit, not_sound, schedule_too_long}
use Rattle.rules.specs.Consult.{ops_of, at_recv}
use Rattle.rules.specs.Guarantees.{Stopped}
use Rattle.rules.specs.Nodes.{Sound, sound}
use Rattle.rules.specs.Steps.{Action, run, arrive, timeout, owner, state, incoming, numbered, owner_born, signal_waits, pair_has_room, number_free, decide, ready, rule, played, play}
use Rattle.rules.specs.Timeout.{is_live}
use Rattle.rules.proofs.Accepted.{step_rule}
use Rattle.rules.proofs.All.{both}
use Rattle.rules.proofs.Arrivals.{arrives_told}
use Rattle.rules.proofs.Order.{sound_kept, played_count, play_is_steps}
use Rattle.rules.proofs.Runs.{Receives, runs_told}
use Rattle.rules.proofs.Timeouts.{expires_told}
use Rattle.rules.proofs.Told.{Told, Common, Named, Ruled, named_ruled, named_more, told_more, need_told, go_on_told}

-- ---- a rule and a play

-- a is a run of a live process at a recv
abbrev pub recv_run : Node → Action → Bool
recv_run n (run i) = at_recv n i
recv_run n (arrive i j) = false
recv_run n (timeout i) = false

abbrev NamedBy : Node → Action → ℕ → Type 0
NamedBy n a = Named (So (recv_run n a))

decide_told : (n : Node) (a : Action) → So (numbered a) → Told (NamedBy n a) (decide n a)
unfolding decide numbered
decide_told n (run i) h =
    let R = Receives (ops_of n i) i (state n i) in
    told_more (Named R) (NamedBy n (run i)) (named_more R _ (λ r. both (both h (ap is_live r.0)) (eq-eqb _ _ r.1))) (decide n (run i)) (runs_told (ops_of n i) i (state n i))
decide_told n (arrive i j) h = told_more Common (NamedBy n (arrive i j)) (λ k. inl) (decide n (arrive i j)) (arrives_told i j (state n i) (incoming n j i))
decide_told n (timeout i) h = told_more Common (NamedBy n (timeout i)) (λ k. inl) (decide n (timeout i)) (expires_told (ops_of n i) (state n i))

-- 25 and 29 are told of a run at a recv only
pub rule_named : (n : Node) (a : Action) → Told (NamedBy n a) (rule n a)
unfolding rule ready
rule_named n a =
    let P = NamedBy n a in
    go_on_told P (ready n a) _
    (need_told P (numbered a) bad_number _ (inl refl) (λ h. need_told P (owner_born n a) owner_unborn _ (inl refl) (λ g. need_told P (signal_waits n a) none_in_flight _ (inl refl)
    (λ f. go_on_told P (decide n a) _ (decide_told n a h) (λ e. need_told P (pair_has_room n (owner a) e.sent) pair_full _ (inl refl) (λ d. tt))))))
    (λ e. need_told P (number_free n e.born) not_unborn _ (inl refl) (λ d. tt))

pub rule_told : (n : Node) (a : Action) → Told Ruled (rule n a)
rule_told n a = told_more (NamedBy n a) Ruled (named_ruled (So (recv_run n a))) (rule n a) (rule_named n a)

-- a play that stopped at a sound node stopped with a number of the schedule writer, or with none
stopped_told : (n : Node) (l : List Action) (k : ℕ) → Sound n → Stopped n l k → k ≤ no_fit
stopped_told n [] k s h = omega (arith, h)
stopped_told n (a ∷ l) k s h =
    let r : rule n a ≡ refused k = sym (step_rule n a s) ∙ h in
    let t : Ruled k = subst (Told Ruled) r (rule_told n a) in
    t.1

module _ (n : Node) (l : List Action) where
  long : ltb 4096 (length l) ≡ true → Sound n → (play n l).refusal ≡ schedule_too_long
  unfolding play
  long h s = rw (s, h)

  short : ltb 4096 (length l) ≡ false → Sound n → (play n l).refusal ≤ no_fit
  short h s = stopped_told (play n l).node (drop (play n l).accepted l) (play n l).refusal (sound_kept.1 n l s) (play_is_steps n l s (ltb-false 4096 (length l) h)).2

  pub refusal_most : Sound n → (play n l).refusal ≤ schedule_too_long
  refusal_most s = go (ltb 4096 (length l)) refl
    where
      go : (b : Bool) → ltb 4096 (length l) ≡ b → (play n l).refusal ≤ schedule_too_long
      go true h = omega (arith, long h s)
      go false h = omega (arith, short h s)

  pub accepted_most : (play n l).accepted ≤ 4096
  unfolding play
  accepted_most = go (not (sound n)) (ltb 4096 (length l)) refl
    where
      go : (x y : Bool) → ltb 4096 (length l) ≡ y
          → (cond x (record { accepted = 0; refusal = not_sound; node = n }) (cond y (record { accepted = 0; refusal = schedule_too_long; node = n }) (played n l))).accepted ≤ 4096
      go true y h = omega arith
      go false true h = omega arith
      go false false h = omega (arith, played_count n l, ltb-false 4096 (length l) h)

  sound_not_31 : Sound n → ((play n l).refusal ≡ not_sound → ⊥)
  sound_not_31 s e = go (ltb 4096 (length l)) refl
    where
      go : (b : Bool) → ltb 4096 (length l) ≡ b → ⊥
      go true h = let z = long h s in omega (arith, z, e)
      go false h = let z = short h s in omega (arith, z, e)

  pub told_31 : (play n l).refusal ≡ not_sound → sound n ≡ false
  told_31 e = go (sound n) refl
    where
      go : (b : Bool) → sound n ≡ b → sound n ≡ false
      go true h = absurd (sound_not_31 h e)
      go false h = h

  pub not_told_31 : ((play n l).refusal ≡ not_sound → ⊥) → Sound n
  unfolding play
  not_told_31 e = go (sound n) refl
    where
      go : (b : Bool) → sound n ≡ b → Sound n
      go true h = h
      go false h = absurd (e (rw h))
