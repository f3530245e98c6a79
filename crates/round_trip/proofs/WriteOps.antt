-- A line `op=` that is accepted is the row that is written of its op. Assumes nothing.
--   word_found         a word among words is the one at its place
--   operand_written    an operand that is accepted, in the op that it is put into;  operands_written  all of an op
--   op_written         the line
use mathlib.Core.Bool.{Bool, true, false, So, ◌&&◌, cond}
use mathlib.Core.List.{List, [], ◌∷◌, ◌++◌, map, append_assoc}
use mathlib.Core.Path.{◌≡◌, refl, sym, subst, ap, ◌∙◌}
use Prim.Native.Nat.{ℕ, suc, ◌+◌, ◌-◌, ◌≤◌, ◌<◌}
use Prim.Native.Char.{code}
use native.Mathlib.Omega.{arith}
use borrow.Author.Tests.{eqb-true, ltb-true, ne_eqb}
use lib.Dec.{eqb, ltb}
use lib.ListN.{length, get_or}
use Rattle.node.specs.declared.Op.{Op}
use Rattle.node.specs.declared.OperandKind.{OperandKind}
use Rattle.node.specs.declared.OperandKind.TheVariants.{NoOperand, RegisterR, RegisterS, ValueV, PlaceT, BehaviourB, ProcessQ, FlagF, CountN, KindK}
use Rattle.node.specs.Lists.{all_of}
use Rattle.node.specs.Ops.{kinds_of, op_count, operand_counts, op_words}
use Rattle.node.specs.Values.{any_kind, exact_kind, int_zero}
use Rattle.node.proofs.Ops.{kinds_length}
use Rattle.rules.specs.Answers.{done}
use Rattle.rules.specs.Behaviours.{operand, instruction}
use Rattle.rules.proofs.All.{parts}
use Rattle.text.specs.Numbers.{number_of, ranged_of}
use Rattle.text.specs.Parts.{fields_of, equal, index_of}
use Rattle.text.specs.Values.{value_of}
use Rattle.text.specs.Writing.{each, digits}
use Rattle.text.proofs.Parts.{equal_true, split_some}
use Rattle.plan_line.specs.Ops.{Coded}
use Rattle.plan_line.specs.Lines.{op_key, op_told, op_line}
use Rattle.plan_line.specs.Ops.{bare, clause_kind, clause_words, coded_of, exact, with_joined, no_code, operand_of, operands_of, op_of, with_operand}
use Rattle.plan_line.proofs.InRange.{apart, distinct, distinct_kinds, operands_clean, operands_number, operands_untouched}
use Rattle.plan_line.proofs.Ranges.{ranged_kept, worse_none}
use Rattle.plan_line.proofs.Told.{answered_done}
use Rattle.plan_writer.specs.Texts.{kind_text, operand_text, operands_text, op_row}
use Rattle.round_trip.proofs.WriteLines.{joined, parts_written, key_cases}
use Rattle.round_trip.proofs.WriteNumbers.{ranged_written, value_written}

-- ---- words
pub word_found : (w : List ℕ) (ws : List (List ℕ)) → index_of w ws < length ws → w ≡ get_or ws (index_of w ws) []
unfolding index_of
word_found w [] h = absurd (omega (arith, h))
word_found w (p ∷ ws) h = go (equal p w) refl h (word_found w ws)
  where
    go : (t : Bool) → equal p w ≡ t → cond t 0 (suc (index_of w ws)) < suc (length ws) → (index_of w ws < length ws → w ≡ get_or ws (index_of w ws) [])
        → w ≡ get_or (p ∷ ws) (cond t 0 (suc (index_of w ws))) []
    go true e h ih = sym (equal_true p w e)
    go false e h ih = ih (omega (arith, h))

-- ---- an operand
kind_written : (l : List ℕ) → (clause_kind l).refusal ≡ 0
    → l ≡ kind_text (record { number = (clause_kind l).number; value = cond (eqb (clause_kind l).number exact_kind) (clause_kind l).value int_zero })
unfolding clause_kind kind_text
kind_written l = go (ltb (index_of l clause_words) (length clause_words)) refl
  where
    go : (t : Bool) → ltb (index_of l clause_words) (length clause_words) ≡ t →
        let x = cond t (record { refusal = 0; number = index_of l clause_words + any_kind; value = int_zero }) (exact (value_of l)) in
        x.refusal ≡ 0 → l ≡ kind_text (record { number = x.number; value = cond (eqb x.number exact_kind) x.value int_zero })
    go true e h =
        let k = index_of l clause_words in
        let back : k + any_kind - any_kind ≡ k = omega arith in
        rw (ne_eqb (k + any_kind) exact_kind (λ q. omega (arith, q)), back) (word_found l clause_words (ltb-true k (length clause_words) e))
    go false e h = value_written l h

module _ (c n : ℕ) (few : c ≤ 255) (short : n ≤ 255) where
  operand_written : (o : Op) (kind : OperandKind) (l : List ℕ) → (operand_of c n kind l).refusal ≡ 0 → l ≡ operand_text kind (operand (with_operand o kind (operand_of c n kind l)) kind)
  unfolding operand_text operand with_operand operand_of
  operand_written o NoOperand l h =
      let zero : (ranged_of (number_of l) 0 0).number ≡ 0 = omega (arith, (ranged_kept l 0 0).most) in
      ranged_written l 0 0 (omega arith) h ∙ ap digits zero
  operand_written o RegisterR l h = ranged_written l 0 3 (omega arith) h
  operand_written o RegisterS l h = ranged_written l 0 3 (omega arith) h
  operand_written o ValueV l h = value_written l h
  operand_written o PlaceT l h = ranged_written l 0 n short h
  operand_written o BehaviourB l h = ranged_written l 1 c few h
  operand_written o ProcessQ l h = ranged_written l 1 16 (omega arith) h
  operand_written o FlagF l h = ranged_written l 0 1 (omega arith) h
  operand_written o CountN l h = ranged_written l 1 8 (omega arith) h
  operand_written o KindK l h = kind_written l h

  operands_written : (o : Coded) (ks : List OperandKind) (ls : List (List ℕ)) → length ls ≡ length ks → So (distinct ks) → (operands_of c n o ks ls).refusal ≡ 0
      → each (λ (l : List ℕ). code "," ∷ l) ls ≡ operands_text ks (map (operand (operands_of c n o ks ls).op) ks)
  unfolding operands_of distinct each operands_text
  operands_written o [] [] e d h = refl
  operands_written o [] (l ∷ ls) e d h = absurd (omega (arith, e))
  operands_written o (k ∷ ks) [] e d h = absurd (omega (arith, e))
  operands_written o (k ∷ ks) (l ∷ ls) e d h =
      let w = parts (all_of (apart k) ks) (distinct ks) d in
      let read = operand_of c n k l in
      let next = with_joined o k read in
      let clean = (worse_none o.refusal read.refusal (operands_clean c n next ks ls h)).1 in
      let here = operand_written o.op k l clean ∙ ap (operand_text k) (sym (operands_untouched c n next k ks ls w.0)) in
      let rest = operands_written next ks ls (omega arith) w.1 h in
      λ i. (code "," ∷ here i) ++ rest i

  -- ---- the line
  abbrev OpText : List ℕ → Coded → Type 0
  OpText l x = x.refusal ≡ 0 → op_key ++ l ≡ op_row (instruction x.op)

  op_of_written : (w : List ℕ) (ls : List (List ℕ)) → OpText (joined (code ",") (w ∷ ls)) (op_of c n (index_of w op_words) ls)
  unfolding op_of op_row instruction
  op_of_written w ls = go (ltb k op_count) (eqb (length ls) (get_or operand_counts k 0)) refl refl
    where
      k : ℕ
      k = index_of w op_words

      go : (a b : Bool) → ltb k op_count ≡ a → eqb (length ls) (get_or operand_counts k 0) ≡ b
          → OpText (joined (code ",") (w ∷ ls)) (cond (a && b) (operands_of c n (bare k) (kinds_of k) ls) no_code)
      go false b p q e = absurd (omega (arith, e))
      go true false p q e = absurd (omega (arith, e))
      go true true p q e =
          let size : length ls ≡ length (kinds_of k) = eqb-true (length ls) (get_or operand_counts k 0) q ∙ sym (kinds_length k) in
          let is = operands_number c n (bare k) (kinds_of k) ls in
          let word = word_found w op_words (ltb-true k op_count p) in
          let rest = operands_written (bare k) (kinds_of k) ls size (distinct_kinds k) e in
          rw is (sym (append_assoc op_key w (each (λ (l : List ℕ). code "," ∷ l) ls)) ∙ (λ i. op_key ++ word i ++ rest i))

  op_told_lem : (line : List ℕ) → (op_told c n line).refusal ≡ 0 → line ≡ op_row (instruction (op_told c n line).op)
  unfolding op_told coded_of fields_of
  op_told_lem line =
      key_cases (λ (x : Coded). x.refusal ≡ 0 → line ≡ op_row (instruction x.op)) op_key no_code (λ l. coded_of c n (fields_of l)) line
      (λ e. absurd (omega (arith, e)))
      (λ l q e.
      let s = split_some (code ",") l in
      let row = subst (λ (fields : List (List ℕ)). OpText (joined (code ",") fields) (coded_of c n fields)) (sym s.2) (op_of_written s.0 s.1) in
      q ∙ ap (λ (r : List ℕ). op_key ++ r) (sym (parts_written (code ",") l)) ∙ row e)

pub op_written : (c n : ℕ) (line : List ℕ) {o : Op} → c ≤ 255 → n ≤ 255 → op_line c n line ≡ done o → line ≡ op_row (instruction o)
unfolding op_line
op_written c n line {o} few short e =
    let x = op_told c n line in
    let a = answered_done x.refusal x.op o e in
    rw a.1 at (op_told_lem c n few short line a.0)
