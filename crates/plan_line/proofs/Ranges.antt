-- What is read of a line keeps its range, and its refusal is one of the plan writer's numbers. Assumes nothing.
--   Kept low high x     a number: at most high, and at least low where it is not refused
--   ranged_kept         what is read with a range;  count_kept  of a line with a key and a number
--   worse_none          of two refusals none is told only where there is none;  worse_most  the one told is one of them, or 11
--   StartKept c s       a start of a plan with c behaviours;  start_kept_lem  of a line `start=`
use mathlib.Core.Bool.{Bool, true, false, ◌&&◌, cond, and-eq-true_iff}
use mathlib.Core.List.{List, []}
use mathlib.Core.Path.{◌≡◌, refl}
use Prim.Native.Nat.{ℕ, ◌≤◌, min}
use native.Mathlib.Omega.{arith}
use borrow.Author.Tests.{leb-true, eqb-true, eqb-false}
use lib.Dec.{leb, ltb, eqb}
use lib.ListN.{length, get_or, drop}
use Rattle.node.specs.declared.ProcessNumber.{ProcessNumber}
use Rattle.rules.specs.Answers.{done, need}
use Rattle.text.specs.Numbers.{malformed, out_of_range, negative, number_form, number_value, ceiling, Ranged, no_number, number_of, ranged_of}
use Rattle.text.specs.Parts.{starts_with, fields_of}
use Rattle.plan_line.specs.Ops.{worse}
use Rattle.plan_line.specs.Lines.{Start, not_rising, start_key, count_told, pair_of, no_start, start_of, risen, start_told}

pub record Kept (low high : ℕ) (x : Ranged) : Type 0 where
  pub most : x.number ≤ high
  pub least : x.refusal ≡ 0 → low ≤ x.number
  pub told : x.refusal ≤ out_of_range

malformed_kept : (low high : ℕ) → Kept low high (no_number malformed)
malformed_kept low high = record { most = omega arith; least = λ e. absurd (omega (arith, e)); told = omega arith }

out_kept : (low high : ℕ) → Kept low high (no_number out_of_range)
out_kept low high = record { most = omega arith; least = λ e. absurd (omega (arith, e)); told = omega arith }

module _ (low high : ℕ) where
  signed_kept : (n : ℕ) (t : Bool) → (leb low n && leb n high) ≡ t → Kept low high (cond t (record { refusal = 0; number = n }) (no_number out_of_range))
  signed_kept n false e = out_kept low high
  signed_kept n true e =
      let both = (and-eq-true_iff (leb low n) (leb n high)).0 e in
      record { most = leb-true n high both.1; least = λ e. leb-true low n both.0; told = omega arith }

pub ranged_kept : (l : List ℕ) (low high : ℕ) → Kept low high (ranged_of (number_of l) low high)
unfolding ranged_of number_of
ranged_kept l low high = go (number_form l) (negative l)
  where
    go : (f m : Bool) → Kept low high (ranged_of (need f malformed (done (record { minus = m; value = min (number_value l) ceiling }))) low high)
    go false m = malformed_kept low high
    go true true = out_kept low high
    go true false = signed_kept low high (min (number_value l) ceiling) _ refl

pub count_kept : (key : List ℕ) (low high : ℕ) (line : List ℕ) → Kept low high (count_told key low high line)
unfolding count_told
count_kept key low high line = go (starts_with key line)
  where
    go : (t : Bool) → Kept low high (cond t (ranged_of (number_of (drop (length key) line)) low high) (no_number malformed))
    go true = ranged_kept (drop (length key) line) low high
    go false = malformed_kept low high

worse_by : (j k : ℕ) (s t : Bool) → eqb j 0 ≡ s → eqb k malformed ≡ t → cond s k (cond t malformed j) ≡ 0 → (j ≡ 0) × (k ≡ 0)
worse_by j k true t a b e = (eqb-true j 0 a, e)
worse_by j k false true a b e = absurd (omega (arith, e))
worse_by j k false false a b e = absurd (eqb-false j 0 a e)

pub worse_none : (j k : ℕ) → worse j k ≡ 0 → (j ≡ 0) × (k ≡ 0)
unfolding worse
worse_none j k e = worse_by j k (eqb j 0) (eqb k malformed) refl refl e

pub worse_most : (j k most : ℕ) → j ≤ most → k ≤ most → malformed ≤ most → worse j k ≤ most
unfolding worse
worse_most j k most h g m = go (eqb j 0) (eqb k malformed)
  where
    go : (s t : Bool) → cond s k (cond t malformed j) ≤ most
    go true t = g
    go false true = m
    go false false = h

pub record StartKept (c : ℕ) (s : Start) : Type 0 where
  pub process : s.process.0 ≤ 16
  pub first : s.refusal ≡ 0 → 1 ≤ s.process.0
  pub least : s.refusal ≡ 0 → 1 ≤ s.behaviour.0
  pub most : s.refusal ≡ 0 → s.behaviour.0 ≤ c
  pub told : s.refusal ≤ not_rising

no_start_kept : (c k : ℕ) → (k ≡ 0 → ⊥) → k ≤ not_rising → StartKept c (no_start k)
no_start_kept c k h g = record { process = omega arith; first = λ e. absurd (h e); least = λ e. absurd (h e); most = λ e. absurd (h e); told = g }

pair_kept : (c : ℕ) (i b : Ranged) → Kept 1 16 i → Kept 1 c b → StartKept c (pair_of i b)
pair_kept c i b h g = record {
  process = h.most;
  first = λ e. h.least (worse_none i.refusal b.refusal e).0;
  least = λ e. g.least (worse_none i.refusal b.refusal e).1;
  most = λ e. g.most;
  told = omega (arith, worse_most i.refusal b.refusal out_of_range h.told g.told (omega arith));
}

start_of_kept : (c : ℕ) (fields : List (List ℕ)) → StartKept c (start_of c fields)
unfolding start_of
start_of_kept c fields = go (eqb (length fields) 2)
  where
    go : (t : Bool) → StartKept c (cond t (pair_of (ranged_of (number_of (get_or fields 0 [])) 1 16) (ranged_of (number_of (get_or fields 1 [])) 1 c)) (no_start malformed))
    go true = pair_kept c _ _ (ranged_kept (get_or fields 0 []) 1 16) (ranged_kept (get_or fields 1 []) 1 c)
    go false = no_start_kept c malformed (λ e. omega (arith, e)) (omega arith)

risen_kept : (c : ℕ) (last : ProcessNumber) (s : Start) → StartKept c s → StartKept c (risen last s)
unfolding risen
risen_kept c last s h = go (eqb s.refusal 0) (ltb last.0 s.process.0)
  where
    go : (t u : Bool) → StartKept c (cond t (cond u s (no_start not_rising)) s)
    go true true = h
    go true false = no_start_kept c not_rising (λ e. omega (arith, e)) (omega arith)
    go false u = h

pub start_kept_lem : (c : ℕ) (last : ProcessNumber) (line : List ℕ) → StartKept c (start_told c last line)
unfolding start_told
start_kept_lem c last line = go (starts_with start_key line)
  where
    go : (t : Bool) → StartKept c (cond t (risen last (start_of c (fields_of (drop (length start_key) line)))) (no_start malformed))
    go true = risen_kept c last _ (start_of_kept c (fields_of (drop (length start_key) line)))
    go false = no_start_kept c malformed (λ e. omega (arith, e)) (omega arith)
