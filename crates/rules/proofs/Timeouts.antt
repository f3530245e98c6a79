-- A timeout: what it refuses with, and that it keeps what an effect must keep. Assumes nothing.
use mathlib.Core.Bool.{Bool, true, false, So, ◌&&◌}
use mathlib.Core.List.{List, map}
use mathlib.Core.Path.{◌≡◌, refl, ◌∙◌, ap, sym}
use Prim.Native.Nat.{ℕ, suc, ◌+◌, ◌≤◌, ◌<◌}
use native.Mathlib.Omega.{arith}
use borrow.Author.Tests.{leb-true, leb-false, eqb-true}
use lib.Dec.{leb, eqb}
use lib.ListN.{length, get_or, get_or-eq_default}
use Rattle.node.specs.declared.Op.{Op}
use Rattle.node.specs.Lists.{all_of}
use Rattle.node.specs.Nodes.{no_op}
use Rattle.node.specs.Ops.{kinds_of, recv_op, after_op}
use Rattle.node.specs.declared.Stage.TheVariants.{Live}
use Rattle.node.specs.Processes.{moved}
use Rattle.rules.specs.Behaviours.{Instruction, instruction, code_sound}
use Rattle.rules.specs.Effects.{State, becomes}
use Rattle.rules.specs.Nodes.{standing, standing_sound}
use Rattle.rules.specs.Timeout.{behind_clauses, at_after, expires}
use Rattle.rules.proofs.All.{parts}
use Rattle.rules.proofs.Cases.{expires_any}
use Rattle.rules.proofs.Keeps.{Good, becomes_alive}
use Rattle.rules.proofs.Living.{code_of, alive, moved_alive}
use Rattle.rules.proofs.Places.{target_at, code_passes}
use Rattle.rules.proofs.Told.{Told, Common}

-- an op that is no blank one is inside the code
pub inside_of : (code : List Op) (k x : ℕ) → (get_or code k no_op).number ≡ x → 1 ≤ x → k < length code
inside_of code k x e p = go (leb (suc k) (length code)) refl
  where
    go : (b : Bool) → leb (suc k) (length code) ≡ b → k < length code
    go true h = leb-true (suc k) (length code) h
    go false h =
        let z : 0 ≡ x = ap (λ (o : Op). o.number) (sym (get_or-eq_default code no_op {n = k} (omega (arith, leb-false (suc k) (length code) h)))) ∙ e in
        absurd (omega (arith, z))

module _ (code : List Op) (st : State) where
  pub expires_told : Told Common (expires code st)
  expires_told = expires_any st (Told Common) code (λ q. refl) refl (λ q h. tt)

  abbrev t : ℕ
  t = st.process.place

  -- where a recv has an `after`, that is an op of the code
  pub after_at : at_after code t ≡ true → ((get_or code t no_op).number ≡ recv_op) × ((behind_clauses code t).number ≡ after_op)
  unfolding at_after
  after_at h =
      let w = parts (eqb (get_or code t no_op).number recv_op) (eqb (behind_clauses code t).number after_op) h in
      (eqb-true (get_or code t no_op).number recv_op w.0, eqb-true (behind_clauses code t).number after_op w.1)

  pub expires_good : (codes : List (List Instruction)) (i : ℕ) → So (standing_sound codes i (standing st.process st.mail)) →
      (So (leb 1 st.process.behaviour.0 && leb st.process.behaviour.0 (length codes)) → code_of codes st.process.behaviour.0 ≡ map instruction code) →
      So (all_of (code_sound (length codes)) codes) → Good codes i st.mail (expires code st)
  unfolding kinds_of
  expires_good codes i sound same sounds = expires_any st (Good codes i st.mail) code (λ q. tt) tt moves
    where
      moves : st.process.stage ≡ Live → at_after code t ≡ true → Good codes i st.mail (becomes st (moved st.process (behind_clauses code t).target))
      moves q h =
          let a = alive codes i st.process st.mail q sound in
          let is = same a.placed.known in
          let e = (after_at h).1 in
          let k = t + 1 + (get_or code t no_op).small in
          let checked = code_passes codes st.process.behaviour.0 code a.placed.known is sounds in
          let w = target_at (length codes) code checked k (inside_of code k after_op e (omega arith)) (behind_clauses code t) refl after_op 0 e (omega arith) refl in
          becomes_alive codes i st _ (moved_alive codes i st.process st.mail a (behind_clauses code t).target (rw is w.0) (rw is w.1))
