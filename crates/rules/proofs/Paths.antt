-- One law for each way that a step can go: the refusal that it meets, or the commit of its effect. Code that decides on small values and
-- stores in place cites these. Assumes nothing.
use mathlib.Core.Bool.{false, So, ◌&&◌}
use mathlib.Core.Path.{◌≡◌, ◌∙◌}
use Prim.Native.Nat.{ℕ, ◌+◌, ◌-◌, ◌*◌, ◌≤◌, ◌<◌}
use native.Mathlib.Omega.{arith}
use borrow.Author.Tests.{leb-true}
use lib.Dec.{leb}
use lib.ListN.{length, get_or, drop}
use lib.Seq.{get_or-drop}
use Rattle.node.specs.declared.Node.{Node}
use Rattle.node.specs.declared.Stage.TheVariants.{Live}
use Rattle.node.specs.Nodes.{no_op}
use Rattle.node.specs.Ops.{recv_op}
use Rattle.node.proofs.Lists.{firsts_length, firsts_get_d}
use Rattle.rules.specs.Answers.{refused, done, bad_number, owner_unborn, none_in_flight, pair_full, not_unborn}
use Rattle.rules.specs.Effects.{Effect}
use Rattle.rules.specs.Nodes.{behaviours_of, code, process, mailbox}
use Rattle.rules.specs.Steps.{Action, owner, commit, numbered, owner_born, signal_waits, pair_has_room, number_free, decide, ready, rule}
use Rattle.node.specs.Values.{is_number}
use Rattle.rules.proofs.All.{parts}
use Rattle.rules.proofs.Living.{live_within}
use Rattle.rules.proofs.Places.{code_passes, code_size, recv_clauses}
use Rattle.rules.proofs.Commits.{Parts, code_of}

-- ---- refusals

module _ (n : Node) (a : Action) where
  pub rule_20 : numbered a ≡ false → rule n a ≡ refused bad_number
  unfolding rule ready
  rule_20 h = rw h

  module _ (numbers : So (numbered a)) where
    pub rule_21 : owner_born n a ≡ false → rule n a ≡ refused owner_unborn
    unfolding rule ready
    rule_21 h = rw (numbers, h)

    module _ (awake : So (owner_born n a)) where
      pub rule_23 : signal_waits n a ≡ false → rule n a ≡ refused none_in_flight
      unfolding rule ready
      rule_23 h = rw (numbers, awake, h)

      module _ (waits : So (signal_waits n a)) where
        -- 22, 24 or 25
        pub rule_undecided : (k : ℕ) → decide n a ≡ refused k → rule n a ≡ refused k
        unfolding rule ready
        rule_undecided k h = rw (numbers, awake, waits, h)

        pub rule_26 : (e : Effect) → decide n a ≡ done e → pair_has_room n (owner a) e.sent ≡ false → rule n a ≡ refused pair_full
        unfolding rule ready
        rule_26 e h f = rw (numbers, awake, waits, h, f)

        pub rule_27 : (e : Effect) → decide n a ≡ done e → So (pair_has_room n (owner a) e.sent) → number_free n e.born ≡ false → rule n a ≡ refused not_unborn
        unfolding rule ready
        rule_27 e h r f = rw (numbers, awake, waits, h, r, f)

        pub rule_done : (e : Effect) → decide n a ≡ done e → So (pair_has_room n (owner a) e.sent) → So (number_free n e.born) → rule n a ≡ done (commit n a e)
        unfolding rule ready
        rule_done e h r f = rw (numbers, awake, waits, h, r, f)

-- ---- where a live process stands in its code

module _ (n : Node) (p : Parts n) (i : ℕ) (number : So (is_number i)) (live : (process n i).stage ≡ Live) where
  abbrev b : ℕ
  b = (process n i).behaviour.0

  within : So (leb 1 b && leb b (length (behaviours_of n)))
  within = live_within (behaviours_of n) i (process n i) (mailbox n i) live (p.processes i number)

  -- its behaviour is one of eight
  pub behaviour_bounds : (1 ≤ b) × (b ≤ 8)
  behaviour_bounds =
      let w = parts (leb 1 b) (leb b (length (behaviours_of n))) within in
      let x = leb-true 1 b w.0 in
      let y = leb-true b (length (behaviours_of n)) w.1 in
      let z = leb-true (length (behaviours_of n)) 8 (parts (leb 1 (length (behaviours_of n))) (leb (length (behaviours_of n)) 8) p.few).1 in
      (x, omega arith)

  pub code_length : length (code n b) ≡ get_or n.lens (b - 1) 0
  unfolding code
  code_length = firsts_length no_op (get_or n.lens (b - 1) 0) (drop (32 * (b - 1)) n.ops)

  -- its code has at most 32 ops
  pub code_bound : length (code n b) ≤ 32
  code_bound = code_size (behaviours_of n) b (code n b) within (code_of n b within) p.codes

  pub code_at : (t : ℕ) → t < length (code n b) → get_or (code n b) t no_op ≡ get_or n.ops (32 * (b - 1) + t) no_op
  unfolding code
  code_at t h = firsts_get_d no_op (get_or n.lens (b - 1) 0) (drop (32 * (b - 1)) n.ops) t (rw code_length at h) ∙ get_or-drop (32 * (b - 1)) n.ops t no_op

  -- where it is at a recv, at most 8 clauses follow
  pub recv_bounds : (process n i).place < length (code n b) → (get_or (code n b) (process n i).place no_op).number ≡ recv_op → ((get_or (code n b) (process n i).place no_op).small ≤ 8)
      × ((process n i).place + 1 + (get_or (code n b) (process n i).place no_op).small ≤ length (code n b))
  recv_bounds h e = recv_clauses (length (behaviours_of n)) (code n b) (code_passes (behaviours_of n) b (code n b) within (code_of n b within) p.codes) (process n i).place h e
