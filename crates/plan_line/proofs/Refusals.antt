-- The refusal of a line is 11, 12 or 13. Assumes nothing.
--   header_told_lem count_told_lem op_told_lem start_told_lem   what is told of each kind of line is not 0 and at most 13
use mathlib.Core.Bool.{Bool, true, false, ◌&&◌, cond}
use mathlib.Core.List.{List, [], ◌∷◌}
use mathlib.Core.Path.{◌≡◌, refl}
use Prim.Native.Nat.{ℕ, ◌+◌, ◌≤◌, min}
use Prim.Native.Char.{code}
use native.Mathlib.Omega.{arith}
use borrow.Author.Tests.{eqb-false}
use lib.Dec.{eqb, leb, ltb}
use lib.IntN.{pos, neg_ℤ}
use lib.ListN.{length, get_or, drop}
use Rattle.node.specs.declared.OperandKind.{OperandKind}
use Rattle.node.specs.declared.OperandKind.TheVariants.{NoOperand, RegisterR, RegisterS, ValueV, PlaceT, BehaviourB, ProcessQ, FlagF, CountN, KindK}
use Rattle.node.specs.declared.ProcessNumber.{ProcessNumber}
use Rattle.node.specs.declared.Value.TheVariants.{Int, Atom}
use Rattle.node.specs.Ops.{kinds_of, op_count, operand_counts, op_words}
use Rattle.node.specs.Values.{any_kind, int_zero, pid}
use Rattle.rules.proofs.Told.{Told}
use Rattle.rules.specs.Answers.{done, need}
use Rattle.text.specs.Numbers.{malformed, out_of_range, negative, number_form, number_value, ceiling, number_of, ranged_of}
use Rattle.text.specs.Parts.{equal, fields_of, index_of, starts_with}
use Rattle.text.specs.Values.{read_as, by_letter, int_of, minus_of, no_value, plus_of, ranged_value, value_of}
use Rattle.plan_line.specs.Lines.{not_rising, header, op_key, header_told, header_line, answered, count_told, count_line, op_told, op_line, start_told, start_line}
use Rattle.plan_line.specs.Ops.{Coded, bare, clause_kind, clause_words, coded_of, exact, with_joined, no_code, operand_of, operands_of, op_of}
use Rattle.plan_line.proofs.Ranges.{ranged_kept, count_kept, start_kept_lem, worse_most}

-- ---- values
module _ (n : ℕ) where
  plus_told : (plus_of n).refusal ≤ out_of_range
  unfolding plus_of
  plus_told = go (leb n 2147483647)
    where
      go : (t : Bool) → (cond t (read_as (Int (pos n))) (no_value out_of_range)).refusal ≤ out_of_range
      go true = omega arith
      go false = omega arith

  minus_told : (minus_of n).refusal ≤ out_of_range
  unfolding minus_of
  minus_told = go (leb n 2147483648)
    where
      go : (t : Bool) → (cond t (read_as (Int (neg_ℤ (pos n)))) (no_value out_of_range)).refusal ≤ out_of_range
      go true = omega arith
      go false = omega arith

int_told : (l : List ℕ) → (int_of (number_of l)).refusal ≤ out_of_range
unfolding int_of number_of
int_told l = go (number_form l) (negative l)
  where
    go : (f m : Bool) → (int_of (need f malformed (done (record { minus = m; value = min (number_value l) ceiling })))).refusal ≤ out_of_range
    go false m = omega arith
    go true true = minus_told (min (number_value l) ceiling)
    go true false = plus_told (min (number_value l) ceiling)

value_told : (l : List ℕ) → (value_of l).refusal ≤ out_of_range
unfolding value_of by_letter
value_told [] = omega arith
value_told (b ∷ l) = go (eqb b (code "i")) (eqb b (code "a")) (eqb b (code "p"))
  where
    go : (x y z : Bool)
        → (cond x (int_of (number_of l)) (cond y (ranged_value Atom (ranged_of (number_of l) 0 255))
        (cond z (ranged_value pid (ranged_of (number_of l) 1 16)) (no_value malformed)))).refusal ≤ out_of_range
    go true y z = int_told l
    go false true z = (ranged_kept l 0 255).told
    go false false true = (ranged_kept l 1 16).told
    go false false false = omega arith

-- ---- operands
clause_told : (l : List ℕ) → (clause_kind l).refusal ≤ out_of_range
unfolding clause_kind
clause_told l = go (ltb (index_of l clause_words) (length clause_words))
  where
    go : (t : Bool) → (cond t (record { refusal = 0; number = index_of l clause_words + any_kind; value = int_zero }) (exact (value_of l))).refusal ≤ out_of_range
    go true = omega arith
    go false = value_told l

module _ (c n : ℕ) where
  operand_told : (kind : OperandKind) (l : List ℕ) → (operand_of c n kind l).refusal ≤ out_of_range
  unfolding operand_of
  operand_told NoOperand l = (ranged_kept l 0 0).told
  operand_told RegisterR l = (ranged_kept l 0 3).told
  operand_told RegisterS l = (ranged_kept l 0 3).told
  operand_told ValueV l = value_told l
  operand_told PlaceT l = (ranged_kept l 0 n).told
  operand_told BehaviourB l = (ranged_kept l 1 c).told
  operand_told ProcessQ l = (ranged_kept l 1 16).told
  operand_told FlagF l = (ranged_kept l 0 1).told
  operand_told CountN l = (ranged_kept l 1 8).told
  operand_told KindK l = clause_told l

  operands_told : (o : Coded) (kinds : List OperandKind) (ls : List (List ℕ)) → o.refusal ≤ out_of_range → (operands_of c n o kinds ls).refusal ≤ out_of_range
  unfolding operands_of
  operands_told o [] ls h = h
  operands_told o (k ∷ ks) [] h = h
  operands_told o (k ∷ ks) (l ∷ ls) h =
      operands_told (with_joined o k (operand_of c n k l)) ks ls (worse_most o.refusal (operand_of c n k l).refusal out_of_range h (operand_told k l) (omega arith))

  coded_told : (fields : List (List ℕ)) → (coded_of c n fields).refusal ≤ out_of_range
  unfolding coded_of op_of
  coded_told fields =
      let k = index_of (get_or fields 0 []) op_words in
      go k (drop 1 fields) (ltb k op_count && eqb (length (drop 1 fields)) (get_or operand_counts k 0))
    where
      go : (k : ℕ) (operands : List (List ℕ)) (t : Bool) → (cond t (operands_of c n (bare k) (kinds_of k) operands) no_code).refusal ≤ out_of_range
      go k operands true = operands_told (bare k) (kinds_of k) operands (omega arith)
      go k operands false = omega arith

-- ---- the refusal of a line
-- no 0, and at most the last of the plan writer's numbers on a line
abbrev pub Low : ℕ → Type 0
Low k = (1 ≤ k) × (k ≤ not_rising)

answered_told : {A : Type 0} (k : ℕ) (a : A) → k ≤ not_rising → Told Low (answered k a)
answered_told k a h = go (eqb k 0) refl
  where
    go : (t : Bool) → eqb k 0 ≡ t → Told Low (need t k (done a))
    go true e = tt
    go false e = let some = eqb-false k 0 e in (omega arith, h)

pub header_told_lem : (line : List ℕ) → Told Low (header_line line)
unfolding header_line header_told
header_told_lem line = answered_told (header_told line) 1 (go (equal line header))
  where
    go : (t : Bool) → cond t 0 malformed ≤ not_rising
    go true = omega arith
    go false = omega arith

pub count_told_lem : (key : List ℕ) (low high : ℕ) (line : List ℕ) → Told Low (count_line key low high line)
unfolding count_line
count_told_lem key low high line = let x = count_told key low high line in answered_told x.refusal x.number (omega (arith, (count_kept key low high line).told))

pub op_told_lem : (c n : ℕ) (line : List ℕ) → Told Low (op_line c n line)
unfolding op_line op_told
op_told_lem c n line = answered_told (op_told c n line).refusal (op_told c n line).op (go (starts_with op_key line))
  where
    go : (t : Bool) → (cond t (coded_of c n (fields_of (drop (length op_key) line))) no_code).refusal ≤ not_rising
    go true = omega (arith, coded_told c n (fields_of (drop (length op_key) line)))
    go false = omega arith

pub start_told_lem : (c : ℕ) (last : ProcessNumber) (line : List ℕ) → Told Low (start_line c last line)
unfolding start_line
start_told_lem c last line = let s = start_told c last line in answered_told s.refusal s (start_kept_lem c last line).told
