-- A run: what it refuses with, and that it keeps what an effect must keep. Assumes nothing.
use mathlib.Core.Bool.{not, So, ◌&&◌}
use mathlib.Core.List.{List, map}
use mathlib.Core.Logic.{inl, inr}
use mathlib.Core.Path.{◌≡◌, refl, sym, ap, subst}
use Prim.Native.Nat.{ℕ}
use borrow.Author.Tests.{leb-false}
use lib.Dec.{leb}
use lib.ListN.{length, get_or}
use Rattle.node.specs.declared.Op.{Op}
use Rattle.node.specs.declared.Process.{Process}
use Rattle.node.specs.declared.Stage.{Stage}
use Rattle.node.specs.declared.Stage.TheVariants.{Live, Closing, Gone}
use Rattle.node.specs.Lists.{all_of}
use Rattle.node.specs.Nodes.{no_op}
use Rattle.node.specs.Ops.{recv_op}
use Rattle.node.specs.Processes.{unlinked, unwatched, gone}
use Rattle.node.specs.Values.{normal, is_number, value_sound}
use Rattle.rules.specs.Behaviours.{Instruction, instruction, code_sound}
use Rattle.rules.specs.Effects.{State}
use Rattle.rules.specs.Nodes.{standing_in, standing, set_of, standing_sound, sound}
use Rattle.rules.specs.Run.{runs_op, closes, runs}
use Rattle.rules.specs.Steps.{is_unborn}
use Rattle.rules.proofs.All.{both, parts}
use Rattle.rules.proofs.Cases.{closes_any, runs_any}
use Rattle.rules.proofs.Keeps.{Good, ends_good}
use Rattle.rules.proofs.Living.{code_of, Apart, alive, without_apart}
use Rattle.rules.proofs.Ops.{At, op_shown}
use Rattle.rules.proofs.Told.{Told, Named, told_more}

-- ---- closing

gone_stage : (p : Process) → (gone p).stage ≡ Gone
unfolding gone
gone_stage p = refl

unlinked_stage : (p : Process) (j : ℕ) {s : Stage} → p.stage ≡ s → (unlinked p j).stage ≡ s
unfolding unlinked
unlinked_stage p j e = e

unwatched_stage : (p : Process) (j : ℕ) {s : Stage} → p.stage ≡ s → (unwatched p j).stage ≡ s
unfolding unwatched
unwatched_stage p j e = e

abbrev ClosingSound : ℕ → Process → Type 0
ClosingSound i p = So (value_sound p.reason && not (set_of p.links i) && not (set_of p.watchers i))

module _ (p : Process) (i j : ℕ) (h : So (value_sound p.reason)) (g : Apart i p.links) (w : Apart i p.watchers) where
  unlinked_sound : ClosingSound i (unlinked p j)
  unfolding unlinked
  unlinked_sound = both (both h (without_apart i p.links g j)) w

  unwatched_sound : ClosingSound i (unwatched p j)
  unfolding unwatched
  unwatched_sound = both (both h g) (without_apart i p.watchers w j)

module _ (codes : List (List Instruction)) (i : ℕ) (st : State) (sound : So (standing_sound codes i (standing st.process st.mail))) where
  -- what is known where the stage is
  at_stage : (s : Stage) → st.process.stage ≡ s → So (standing_sound codes i (standing_in s st.process st.mail))
  unfolding standing
  at_stage s e = subst (λ (s : Stage). So (standing_sound codes i (standing_in s st.process st.mail))) e sound

  -- a process that keeps its stage
  in_stage : (s : Stage) (q : Process) → q.stage ≡ s → So (standing_sound codes i (standing_in s q st.mail)) → So (standing_sound codes i (standing q st.mail))
  unfolding standing
  in_stage s q e h = subst (λ (s : Stage). So (standing_sound codes i (standing_in s q st.mail))) (sym e) h

  closes_good : st.process.stage ≡ Closing → Good codes i st.mail (closes st)
  closes_good e =
      let p = st.process in
      let v = parts (value_sound p.reason && not (set_of p.links i)) (not (set_of p.watchers i)) (at_stage Closing e) in
      let w = parts (value_sound p.reason) (not (set_of p.links i)) v.0 in
      closes_any st (Good codes i st.mail)
      (record { sound = in_stage Gone (gone p) (gone_stage p) refl; mail = tt; born = ap is_unborn (gone_stage p); sent = tt; birth = tt; apart = tt })
      (λ j n. record {
        sound = in_stage Closing (unlinked p j) (unlinked_stage p j e) (unlinked_sound p i j w.0 w.1 v.1);
        mail = tt;
        born = ap is_unborn (unlinked_stage p j e);
        sent = (n, w.0);
        birth = tt;
        apart = tt;
      })
      (λ j n. record {
        sound = in_stage Closing (unwatched p j) (unwatched_stage p j e) (unwatched_sound p i j w.0 w.1 v.1);
        mail = tt;
        born = ap is_unborn (unwatched_stage p j e);
        sent = (n, w.0);
        birth = tt;
        apart = tt;
      })

module _ (st : State) where
  -- never refused
  pub closes_told : (P : ℕ → Type 0) → Told P (closes st)
  closes_told P = closes_any st (Told P) tt (λ j n. tt) (λ j n. tt)

-- ---- a run

module _ (code : List Op) (i : ℕ) (st : State) where
  -- it is a live process at a recv
  abbrev pub Receives : Type 0
  Receives = (st.process.stage ≡ Live) × ((get_or code st.process.place no_op).number ≡ recv_op)

  pub runs_told : Told (Named Receives) (runs code i st)
  runs_told =
      let o = get_or code st.process.place no_op in
      runs_any st (Told (Named Receives)) code i (λ q. inl refl) (λ q d. tt)
      (λ q d. told_more (At o.number) (Named Receives) (λ k h. inr (h.0, (q, h.1))) (runs_op code i st o) (op_shown code i st o).told)
      (λ q. closes_told st (Named Receives)) (λ q. inl refl)

  pub runs_good : (codes : List (List Instruction)) → So (is_number i) → So (standing_sound codes i (standing st.process st.mail)) →
      (So (leb 1 st.process.behaviour.0 && leb st.process.behaviour.0 (length codes)) → code_of codes st.process.behaviour.0 ≡ map instruction code) →
      So (all_of (code_sound (length codes)) codes) → Good codes i st.mail (runs code i st)
  runs_good codes number sound same sounds =
      runs_any st (Good codes i st.mail) code i (λ q. tt)
      (λ q d. ends_good codes i st normal refl (alive codes i st.process st.mail q sound).apart)
      (λ q d.
      let a = alive codes i st.process st.mail q sound in
      (op_shown code i st (get_or code st.process.place no_op)).good codes
      (record { number = number; alive = a; same = same a.placed.known; sounds = sounds; inside = leb-false (length code) st.process.place d; here = refl }) refl)
      (closes_good codes i st sound) (λ q. tt)
