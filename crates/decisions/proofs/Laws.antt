-- A sum within the limits of an integer; where a value names no process; what the last arm of a match knows; an op by its number; a run and an
-- arrival by the stage; the lowest link and watcher. Assumes nothing.
use mathlib.Core.Bool.{true, false}
use mathlib.Core.List.{List, []}
use mathlib.Core.Path.{◌≡◌, refl, sym, ◌∙◌, ap, subst}
use Prim.Native.Nat.{ℕ, zero, suc, ◌≤◌, ◌<◌, ◌^◌}
use native.Mathlib.Omega.{arith}
use borrow.Author.Tests.{lt-leb, le-leb}
use lib.IntN.{ℤ, pos, negsuc}
use mir.Syntax.{w32}
use mir.Val.{SFits}
use lib.ListN.{length, get_or, replicate, length-set, length-replicate, get_or-eq_default}
use lib.Seq.{get_or-set_same}
use Rattle.node.specs.declared.Op.{Op}
use Rattle.node.specs.declared.Process.{Process}
use Rattle.node.specs.declared.ProcessNumber.{ProcessNumber}
use Rattle.node.specs.declared.Signal.{Signal}
use Rattle.node.specs.declared.Signal.TheVariants.{Exit, Down}
use Rattle.node.specs.declared.Stage.{Stage}
use Rattle.node.specs.Nodes.{no_op}
use Rattle.node.specs.Ops.{op_count}
use Rattle.node.specs.Processes.{unlinked, unwatched, ended}
use Rattle.node.specs.declared.Value.{Value}
use Rattle.node.specs.declared.Value.TheVariants.{Int, Atom, Pid}
use Rattle.node.specs.Values.{normal, badarg, fits_int, same_value}
use Rattle.rules.specs.Answers.{Answer}
use Rattle.rules.specs.Arrive.{arrives_in, arrives}
use Rattle.rules.specs.Effects.{State, Effect, sends}
use Rattle.rules.specs.Receive.{receives}
use Rattle.rules.specs.Run.{sends_to, to_other, stops, op_table, runs_op, runs_live, runs_in, runs, closes_to}
use Rattle.decisions.specs.Answers.{unread, becoming, decision_of, says, ran_op, code_at, ran, arrived}

-- ---- the sum of two integers

pub fits : (z : ℤ) → SFits w32 z → fits_int z ≡ true
unfolding fits_int
fits (pos n) f = let h : n < 2 ^ 31 = f.sfits in rw (le-leb n 2147483647 (omega (arith, h)))
fits (negsuc n) f = let h : n < 2 ^ 31 = f.sfits in rw (le-leb n 2147483647 (omega (arith, h)))

-- the limits of an integer are those of 32 bits
pub fits_not : (z : ℤ) → (SFits w32 z → ⊥) → fits_int z ≡ false
unfolding fits_int
fits_not (pos n) h = let g : n < 2 ^ 31 → ⊥ = λ k. h (record { sfits = k }) in rw (lt-leb n 2147483647 (omega (arith, g)))
fits_not (negsuc n) h = let g : n < 2 ^ 31 → ⊥ = λ k. h (record { sfits = k }) in rw (lt-leb n 2147483647 (omega (arith, g)))

-- ---- a value that names no process

-- an op that reads v in a register where v names no process
pub no_receiver : {v w : Value} (i : ℕ) (p : Process) (q : ℕ → Process) (x : Signal) → w ≡ v → ((j : ProcessNumber) → w ≡ Pid j → ⊥)
    → becoming (ended p badarg) ≡ says p 0 (λ st. to_other i st v (sends_to st v q x))
unfolding same_value
no_receiver {w = w} i p q x e h = subst (λ (v : Value). becoming (ended p badarg) ≡ says p 0 (λ st. to_other i st v (sends_to st v q x))) e (go w h)
  where
    go : (v : Value) → ((j : ProcessNumber) → v ≡ Pid j → ⊥) → becoming (ended p badarg) ≡ says p 0 (λ st. to_other i st v (sends_to st v q x))
    go (Int z) h = refl
    go (Atom a) h = refl
    go (Pid j) h = absurd (h j refl)

-- ---- the last arm of a match

-- a number that is none of 0 .. k - 1: what the last arm of a match with those arms knows
abbrev pub Past : ℕ → ℕ → Type 0
Past zero n = Unit {0}
Past (suc k) n = Past k n × (n ≡ k → ⊥)

pub past : (k n : ℕ) → Past k n → k ≤ n
past zero n h = omega arith
past (suc k) n h = let l : k ≤ n = past k n h.0 in let d : n ≡ k → ⊥ = h.1 in omega arith

-- ---- an op by its number

module _ (i : ProcessNumber) (p : Process) (o : Op) where
  -- op k of the table; what is past it is read as stop
  abbrev pub entry : ℕ → State → Answer Effect
  entry k st = get_or (op_table [] i.0 st o) k (stops st o)

  pub ran_at : (k : ℕ) → o.number ≡ k → says p 0 (entry k) ≡ ran_op i p o
  unfolding ran_op runs_op
  ran_at k e = ap (λ (j : ℕ). says p 0 (entry j)) (sym e)

  -- past the table
  pub ran_stop : op_count ≤ o.number → says p 0 (λ st. stops st o) ≡ ran_op i p o
  ran_stop h =
      let st = unread p 0 in
      ap (decision_of st) (sym (get_or-eq_default (op_table [] i.0 st o) (stops st o) {n = o.number} h)) ∙ ran_at o.number refl

-- ---- a run by the stage, and at a place

module _ (p : Process) (len : ℕ) (o : Op) where
  abbrev ops : List Op
  ops = code_at len p.place o

  pub ops_length : length ops ≡ len
  ops_length = length-set (replicate len no_op) p.place o ∙ length-replicate len no_op

  pub ops_op : p.place < len → get_or ops p.place no_op ≡ o
  ops_op h = get_or-set_same (replicate len no_op) p.place o no_op (rw length-replicate h)

module _ (i : ProcessNumber) (p : Process) (len : ℕ) (o : Op) where
  pub at_stage : {s : Stage} → p.stage ≡ s → says p 0 (runs_in s (ops p len o) i.0) ≡ ran i p len o
  unfolding ran runs
  at_stage e = sym (ap (λ (s : Stage). says p 0 (runs_in s (ops p len o) i.0)) e)

  pub live_end : len ≤ p.place → becoming (ended p normal) ≡ says p 0 (runs_live (ops p len o) i.0)
  unfolding runs_live
  live_end h = rw (ops_length p len o, le-leb len p.place h)

  pub live_op : p.place < len → ran_op i p o ≡ says p 0 (runs_live (ops p len o) i.0)
  unfolding ran_op runs_live runs_op receives
  live_op h = rw (ops_length p len o, lt-leb len p.place h, ops_op p len o h)

-- ---- an arrival by the stage

pub comes_at : (i j : ProcessNumber) (p : Process) (k : ℕ) (x : Signal) {s : Stage} → p.stage ≡ s → says p k (λ st. arrives_in s i.0 j.0 st x) ≡ arrived i j p k x
unfolding arrived arrives
comes_at i j p k x e = sym (ap (λ (s : Stage). says p k (λ st. arrives_in s i.0 j.0 st x)) e)

-- ---- the lowest link, and the lowest watcher

module _ (st : State) (j k : ℕ) where
  pub closes_linked : (j ≡ 0 → ⊥) → closes_to st j k ≡ sends st (unlinked st.process j) j (Exit st.process.reason true)
  closes_linked h = go j h
    where
      go : (j : ℕ) → (j ≡ 0 → ⊥) → closes_to st j k ≡ sends st (unlinked st.process j) j (Exit st.process.reason true)
      go zero h = absurd (h refl)
      go (suc j) h = refl

  pub closes_watched : (k ≡ 0 → ⊥) → closes_to st 0 k ≡ sends st (unwatched st.process k) k (Down st.process.reason)
  closes_watched h = go k h
    where
      go : (k : ℕ) → (k ≡ 0 → ⊥) → closes_to st 0 k ≡ sends st (unwatched st.process k) k (Down st.process.reason)
      go zero h = absurd (h refl)
      go (suc k) h = refl
