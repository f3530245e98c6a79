-- Of all that a run can do, only a recv is refused with 25: who is told so is live and at a recv. Assumes nothing.
use mathlib.Core.Bool.{Bool, true, false, cond}
use mathlib.Core.List.{List}
use mathlib.Core.Path.{◌≡◌, refl, subst}
use Prim.Native.Nat.{ℕ, ◌<◌}
use native.Mathlib.Omega.{arith}
use borrow.Author.Tests.{leb-false}
use lib.Dec.{leb}
use lib.ListN.{length, get_or}
use Rattle.node.specs.declared.Op.{Op}
use Rattle.node.specs.declared.Stage.{Stage}
use Rattle.node.specs.declared.Stage.TheVariants.{Unborn, Live, Closing, Gone}
use Rattle.node.specs.Nodes.{no_op}
use Rattle.node.specs.Ops.{recv_op}
use Rattle.node.specs.Values.{normal}
use Rattle.rules.specs.Answers.{Answer, refused, owner_unborn, owner_gone, mailbox_empty}
use Rattle.rules.specs.Effects.{State, Effect, ends}
use Rattle.rules.specs.Run.{runs_op, closes, runs_live, runs_in, runs}
use Rattle.rules.proofs.Ops.{At, op_shown}
use Rattle.rules.proofs.Runs.{closes_told}
use Rattle.rules.proofs.Told.{Told}

not_25 : (x : Answer Effect) → Told (λ m. m < mailbox_empty) x → (x ≡ refused mailbox_empty → ⊥)
not_25 x h e = let z : mailbox_empty < mailbox_empty = subst (Told (λ m. m < mailbox_empty)) e h in omega (arith, z)

module _ (code : List Op) (i : ℕ) (st : State) where
  -- the process is live, not at its end, and at a recv
  pub record AtRecv : Type 0 where
    pub live : st.process.stage ≡ Live
    pub inside : st.process.place < length code
    pub recv : (get_or code st.process.place no_op).number ≡ recv_op

  pub only_recv : runs code i st ≡ refused mailbox_empty → AtRecv
  unfolding runs runs_live
  only_recv h = go st.process.stage refl h
    where
      live : (b : Bool) → st.process.stage ≡ Live → leb (length code) st.process.place ≡ b →
          cond b (ends st normal) (runs_op code i st (get_or code st.process.place no_op)) ≡ refused mailbox_empty → AtRecv
      live true l e h = absurd (not_25 (ends st normal) tt h)
      live false l e h =
          let o = get_or code st.process.place no_op in
          record { live = l; inside = leb-false (length code) st.process.place e; recv = (subst (Told (At o.number)) h (op_shown code i st o).told).1 }

      go : (s : Stage) → st.process.stage ≡ s → runs_in s code i st ≡ refused mailbox_empty → AtRecv
      go Unborn e h = absurd (not_25 (refused owner_unborn) (omega arith) h)
      go Live e h = live (leb (length code) st.process.place) e refl h
      go Closing e h = absurd (not_25 (closes st) (closes_told st (λ m. m < mailbox_empty)) h)
      go Gone e h = absurd (not_25 (refused owner_gone) (omega arith) h)
