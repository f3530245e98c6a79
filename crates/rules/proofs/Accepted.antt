-- An accepted step taken apart: the checks that it passed, the effect that its owner decided on, and the node that was stored. Assumes nothing.
use mathlib.Core.Bool.{Bool, true, false, So}
use mathlib.Core.Path.{◌≡◌, refl, ◌∙◌, ap}
use Prim.Native.Nat.{ℕ}
use native.Mathlib.Omega.{arith}
use Rattle.node.specs.declared.Node.{Node}
use Rattle.rules.specs.Answers.{Answer, refused, done, need, go_on, bad_number, owner_unborn, none_in_flight, pair_full, not_unborn, not_sound}
use Rattle.rules.specs.Effects.{Effect}
use Rattle.rules.specs.Nodes.{sound, Sound}
use Rattle.rules.specs.Steps.{Action, owner, numbered, owner_born, signal_waits, pair_has_room, number_free, decide, commit, ready, rule, step}

pub need_done : {A : Type 0} {x : A} (b : Bool) (k : ℕ) (a : Answer A) → need b k a ≡ done x → So b × (a ≡ done x)
need_done true k a e = (refl, e)
need_done false k a e = absurd (let z : ◌≡◌ {A = ℕ} 0 1 = cc e in omega arith)

pub go_on_done : {A B : Type 0} {y : B} (a : Answer A) (f : A → Answer B) → go_on a f ≡ done y → (x : A) × (a ≡ done x) × (f x ≡ done y)
go_on_done (refused k) f e = absurd (let z : ◌≡◌ {A = ℕ} 0 1 = cc e in omega arith)
go_on_done (done x) f e = (x, refl, e)

-- all that is looked at before 27 was passed, and the owner decided on effect e
pub record Act (n : Node) (a : Action) (e : Effect) : Type 0 where
  pub numbers : So (numbered a)
  pub awake : So (owner_born n a)
  pub waits : So (signal_waits n a)
  pub decided : decide n a ≡ done e
  pub room : So (pair_has_room n (owner a) e.sent)

-- step a is accepted at n, and gives m
pub record Goes (n m : Node) (a : Action) : Type 0 where
  pub effect : Effect
  pub act : Act n a effect
  pub free : So (number_free n effect.born)
  pub to : m ≡ commit n a effect

module _ (n : Node) (a : Action) where
  pub act_of : (e : Effect) → ready n a ≡ done e → Act n a e
  unfolding ready
  act_of e h =
      let b = need_done (numbered a) bad_number _ h in
      let c = need_done (owner_born n a) owner_unborn _ b.1 in
      let d = need_done (signal_waits n a) none_in_flight _ c.1 in
      let f = go_on_done (decide n a) _ d.1 in
      let g = need_done (pair_has_room n (owner a) f.0.sent) pair_full _ f.2 in
      let q : f.0 ≡ e = cc g.1 in
      record { numbers = b.0; awake = c.0; waits = d.0; decided = f.1 ∙ ap done q; room = rw q at g.0 }

  pub of_act : (e : Effect) → Act n a e → ready n a ≡ done e
  unfolding ready
  of_act e h = rw (h.numbers, h.awake, h.waits, h.decided, h.room)

  pub rule_goes : (m : Node) → rule n a ≡ done m → Goes n m a
  unfolding rule
  rule_goes m h =
      let b = go_on_done (ready n a) _ h in
      let c = need_done (number_free n b.0.born) not_unborn _ b.2 in
      record { effect = b.0; act = act_of b.0 b.1; free = c.0; to = cc c.1 }

  pub goes_rule : (e : Effect) → Act n a e → So (number_free n e.born) → rule n a ≡ done (commit n a e)
  unfolding rule
  goes_rule e h f = rw (of_act e h, f)

  -- a sound node's step is its rule, and an unsound one's is refused
  pub step_rule : Sound n → step n a ≡ rule n a
  unfolding step
  step_rule h = rw h

  pub step_goes : (m : Node) → step n a ≡ done m → Sound n × Goes n m a
  unfolding step
  step_goes m h = let b = need_done (sound n) not_sound (rule n a) h in (b.0, rule_goes m b.1)
