-- What the code reads of the ops of a node is what the plan's rules read of its behaviours. Assumes nothing.
use mathlib.Core.Bool.{Bool, true, false, ◌&&◌, ◌||◌, not, cond}
use mathlib.Core.List.{List, [], ◌∷◌, map}
use mathlib.Core.Path.{◌≡◌, refl, sym, ◌∙◌, ap}
use Prim.Native.Nat.{ℕ, ◌+◌, ◌-◌, ◌*◌, ◌≤◌, ◌<◌}
use native.Mathlib.Omega.{arith}
use Rattle.std.specs.Prelude.{Option, None, Some}
use lib.ListN.{length, get_or, drop, get_or-eq_default}
use lib.Seq.{get_or-drop}
use Rattle.node.specs.declared.Op.{Op}
use Rattle.node.specs.declared.OperandKind.{OperandKind}
use Rattle.node.specs.declared.OperandKind.TheVariants.{NoOperand, RegisterR, RegisterS, ValueV, PlaceT, BehaviourB, ProcessQ, FlagF, CountN, KindK}
use Rattle.node.specs.Lists.{all_of}
use Rattle.node.specs.Nodes.{no_op}
use Rattle.node.specs.Ops.{is_kind, is_part, kinds_of, recv_op}
use Rattle.node.proofs.Lists.{all_two_map, get_d_in, held_at, held_length, map_rising_at, map_rising_length}
use Rattle.rules.specs.Behaviours.{Instruction, clause_count, instruction, no_instruction, numeric, on_part, operand, targets_free}
use Rattle.behaviours.specs.Codes.{code_in, codes_in, has_target}

-- ---- ops

-- recv's n
pub clause_count_lem : (o : Op) → o.number ≡ recv_op → clause_count (instruction o) ≡ o.small
unfolding instruction operand kinds_of
clause_count_lem o e = ap (λ (n : ℕ). (get_or (map (operand o) (kinds_of n)) 0 (numeric 0)).number) e

-- ---- a behaviour

pub code_length : (n : ℕ) (ops : List Op) (k : ℕ) → length (code_in n ops k) ≡ n
unfolding code_in
code_length n ops k = held_length instruction no_op n (drop (32 * k) ops)

pub code_at : (n : ℕ) (ops : List Op) (k t : ℕ) → t < n → get_or (code_in n ops k) t (instruction no_op) ≡ instruction (get_or ops (32 * k + t) no_op)
unfolding code_in
code_at n ops k t h = held_at instruction no_op n (drop (32 * k) ops) t h ∙ ap instruction (get_or-drop (32 * k) ops t no_op)

pub on_part_end : (code : List Instruction) (t : ℕ) → length code ≤ t → on_part code t ≡ false
on_part_end code t h = ap (λ (x : Instruction). is_part x.number) (get_or-eq_default code no_instruction {n = t} h)

pub on_part_at : (n : ℕ) (ops : List Op) (k t : ℕ) → t < n → on_part (code_in n ops k) t ≡ is_part (get_or ops (32 * k + t) no_op).number
unfolding instruction
on_part_at n ops k t h =
    let l : t < length (code_in n ops k) = rw (code_length n ops k) h in
    ap (λ (x : Instruction). is_part x.number) (get_d_in (code_in n ops k) t no_instruction (instruction no_op) l ∙ code_at n ops k t h)

-- one operand after the other, for a test q of a target
one_kind : (o : Op) (q : ℕ → Bool) (kind : OperandKind) (a : Bool) → ((not (is_kind PlaceT kind) || q (operand o kind).number) && cond (not a) (q o.target) true)
    ≡ cond (not (not (is_kind PlaceT kind) && a)) (q o.target) true
unfolding operand
one_kind o q NoOperand a = refl
one_kind o q RegisterR a = refl
one_kind o q RegisterS a = refl
one_kind o q ValueV a = refl
one_kind o q BehaviourB a = refl
one_kind o q ProcessQ a = refl
one_kind o q FlagF a = refl
one_kind o q CountN a = refl
one_kind o q KindK a = refl
one_kind o q PlaceT a = twice a (q o.target)
  where
    twice : (a b : Bool) → (b && cond (not a) b true) ≡ b
    twice a false = refl
    twice true true = refl
    twice false true = refl

all_kinds : (o : Op) (q : ℕ → Bool) (ks : List OperandKind) → all_of (λ (kind : OperandKind). not (is_kind PlaceT kind) || q (operand o kind).number) ks
    ≡ cond (not (all_of (λ (kind : OperandKind). not (is_kind PlaceT kind)) ks)) (q o.target) true
all_kinds o q [] = refl
all_kinds o q (kind ∷ ks) =
    ap (λ (b : Bool). (not (is_kind PlaceT kind) || q (operand o kind).number) && b) (all_kinds o q ks) ∙ one_kind o q kind (all_of (λ (k : OperandKind). not (is_kind PlaceT k)) ks)

landed : (code : List Instruction) (h : Bool) (t : ℕ) → cond h (not (on_part code t)) true ≡ not (on_part code (cond h t (length code)))
landed code true t = refl
landed code false t = rw (on_part_end code (length code) (omega arith))

target_free : (code : List Instruction) (o : Op) → targets_free code (instruction o) ≡ not (on_part code (cond (has_target o.number) o.target (length code)))
unfolding targets_free instruction has_target
target_free code o =
    all_two_map (λ kind x. not (is_kind PlaceT kind) || not (on_part code x.number)) (operand o) (kinds_of o.number)
    ∙ all_kinds o (λ t. not (on_part code t)) (kinds_of o.number)
    ∙ landed code (has_target o.number) o.target

-- whether an op leads to a part of a recv: it leads nowhere, to a place, or past the end
module _ (code : List Instruction) (o : Op) where
  abbrev landing : Bool → Option ℕ
  landing h = cond h (Some o.target) None

  nowhere : (h : Bool) → landing h ≡ None → h ≡ false
  nowhere true e = cc
  nowhere false e = refl

  somewhere : (h : Bool) (to : ℕ) → landing h ≡ Some to → (h ≡ true) × (o.target ≡ to)
  somewhere true to e = (refl, cc)
  somewhere false to e = cc

  pub free_none : cond (has_target o.number) (Some o.target) None ≡ None → true ≡ targets_free code (instruction o)
  free_none e = sym (target_free code o ∙ rw (nowhere (has_target o.number) e, on_part_end code (length code) (omega arith)))

  module _ (to : ℕ) (e : cond (has_target o.number) (Some o.target) None ≡ Some to) where
    pub free_at : targets_free code (instruction o) ≡ not (on_part code to)
    free_at = let w = somewhere (has_target o.number) to e in target_free code o ∙ rw (w.0, w.1)

    pub free_past : length code ≤ to → true ≡ targets_free code (instruction o)
    free_past h = sym (free_at ∙ ap not (on_part_end code to h))

-- ---- all behaviours

pub codes_length : (c : ℕ) (lens : List ℕ) (ops : List Op) → length (codes_in c lens ops) ≡ c
unfolding codes_in
codes_length c lens ops = map_rising_length (λ (b : ℕ). code_in (get_or lens (b - 1) 0) ops (b - 1)) 1 c

pub codes_at : (c : ℕ) (lens : List ℕ) (ops : List Op) (k : ℕ) → k < c → get_or (codes_in c lens ops) k [] ≡ code_in (get_or lens k 0) ops k
unfolding codes_in
codes_at c lens ops k h =
    map_rising_at (λ (b : ℕ). code_in (get_or lens (b - 1) 0) ops (b - 1)) 1 c k [] h ∙ ap (λ (j : ℕ). code_in (get_or lens j 0) ops j) (omega arith)
