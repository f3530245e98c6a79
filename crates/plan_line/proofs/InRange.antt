-- An op whose line is accepted has its operands in range. Assumes nothing.
--   value_kept        a value that is accepted keeps its limits
--   operand_kept      so does an operand that is accepted, in the op that it is put into
--   operand_untouched an operand of another kind leaves it as it is
--   op_kept           the op of a line: its number, and its operands by their kinds
use mathlib.Core.Bool.{Bool, true, false, So, ◌&&◌, ◌||◌, not, cond}
use mathlib.Core.List.{List, [], ◌∷◌}
use mathlib.Core.Path.{◌≡◌, refl, sym, subst, ◌∙◌}
use Prim.Native.Nat.{ℕ, zero, suc, ◌+◌, ◌<◌}
use Prim.Native.Char.{code}
use native.Mathlib.Omega.{arith}
use borrow.Author.Tests.{le-leb, leb-true, ltb-true, eqb-true, not-true}
use lib.Dec.{eqb, leb, ltb}
use lib.IntN.{pos, neg_ℤ}
use lib.ListN.{length, get_or, drop}
use Rattle.node.specs.declared.Op.{Op}
use Rattle.node.specs.declared.Value.TheVariants.{Int, Atom}
use Rattle.node.specs.declared.OperandKind.{OperandKind}
use Rattle.node.specs.declared.OperandKind.TheVariants.{NoOperand, RegisterR, RegisterS, ValueV, PlaceT, BehaviourB, ProcessQ, FlagF, CountN, KindK}
use Rattle.node.specs.Lists.{all_of}
use Rattle.node.specs.Ops.{is_kind, kinds_of, op_count, operand_counts, op_kinds, op_words}
use Rattle.node.specs.Values.{any_kind, exact_kind, int_zero, last_kind, pid, fits_int, is_number, value_sound}
use Rattle.node.proofs.Ops.{kinds_length}
use Rattle.rules.specs.Answers.{Answer, refused, done}
use Rattle.rules.specs.Behaviours.{Operand, operand, operand_in_range}
use Rattle.rules.proofs.All.{both, parts, all_of_any}
use Rattle.text.specs.Numbers.{malformed, out_of_range, Signed, number_of, ranged_of}
use Rattle.text.specs.Parts.{fields_of, index_of, starts_with}
use Rattle.text.specs.Values.{read_as, by_letter, int_of, minus_of, Parsed, no_value, plus_of, ranged_value, value_of}
use Rattle.plan_line.specs.Lines.{op_key, op_told}
use Rattle.plan_line.specs.Ops.{Coded, ReadOperand, bare, clause_kind, clause_words, coded_of, exact, with_joined, no_code, operand_of, operands_of, op_of, with_operand}
use Rattle.plan_line.proofs.Ranges.{ranged_kept, worse_none}

-- ---- values

abbrev ValueKept : Parsed → Type 0
ValueKept x = x.refusal ≡ 0 → So (value_sound x.value)

no_value_kept : (k : ℕ) → ValueKept (no_value k)
unfolding fits_int
no_value_kept k e = refl

plus_kept : (n : ℕ) → ValueKept (plus_of n)
unfolding plus_of fits_int
plus_kept n = go (leb n 2147483647) refl
  where
    go : (t : Bool) → leb n 2147483647 ≡ t → ValueKept (cond t (read_as (Int (pos n))) (no_value out_of_range))
    go true e h = e
    go false e h = refl

minus_kept : (n : ℕ) → ValueKept (minus_of n)
unfolding minus_of fits_int
minus_kept zero = λ e. refl
minus_kept (suc m) = go (leb (suc m) 2147483648) refl
  where
    go : (t : Bool) → leb (suc m) 2147483648 ≡ t → ValueKept (cond t (read_as (Int (neg_ℤ (pos (suc m))))) (no_value out_of_range))
    go true e h = let l = leb-true (suc m) 2147483648 e in both (le-leb m 2147483647 (omega arith)) refl
    go false e h = refl

int_kept : (x : Answer Signed) → ValueKept (int_of x)
unfolding int_of
int_kept (refused k) = no_value_kept k
int_kept (done n) = go n.minus
  where
    go : (m : Bool) → ValueKept (cond m (minus_of n.value) (plus_of n.value))
    go true = minus_kept n.value
    go false = plus_kept n.value

letter_by : (l : List ℕ) (a b c : Bool)
    → ValueKept (cond a (int_of (number_of l)) (cond b (ranged_value Atom (ranged_of (number_of l) 0 255)) (cond c (ranged_value pid (ranged_of (number_of l) 1 16)) (no_value malformed))))
unfolding is_number
letter_by l true b c = int_kept (number_of l)
letter_by l false true c = λ e. le-leb _ 255 (ranged_kept l 0 255).most
letter_by l false false true = λ e. let k = ranged_kept l 1 16 in both (le-leb 1 _ (k.least e)) (le-leb _ 16 k.most)
letter_by l false false false = no_value_kept malformed

value_kept : (l : List ℕ) → ValueKept (value_of l)
unfolding value_of by_letter
value_kept [] = no_value_kept malformed
value_kept (b ∷ l) = letter_by l (eqb b (code "i")) (eqb b (code "a")) (eqb b (code "p"))

-- ---- an operand

zero_kept : (t : Bool) → So (value_sound (cond t int_zero int_zero))
unfolding fits_int
zero_kept true = refl
zero_kept false = refl

clause_kept : (l : List ℕ) → (clause_kind l).refusal ≡ 0 → So (leb (clause_kind l).number last_kind && value_sound (cond (eqb (clause_kind l).number exact_kind) (clause_kind l).value int_zero))
unfolding clause_kind fits_int
clause_kept l = go (ltb (index_of l clause_words) (length clause_words)) refl
  where
    go : (t : Bool) → ltb (index_of l clause_words) (length clause_words) ≡ t →
        let x = cond t (record { refusal = 0; number = index_of l clause_words + any_kind; value = int_zero }) (exact (value_of l)) in
        x.refusal ≡ 0 → So (leb x.number last_kind && value_sound (cond (eqb x.number exact_kind) x.value int_zero))
    go true e h =
        let b = ltb-true (index_of l clause_words) (length clause_words) e in
        both (le-leb (index_of l clause_words + any_kind) last_kind (omega arith)) (zero_kept (eqb (index_of l clause_words + any_kind) exact_kind))
    go false e h = value_kept l h

module _ (c n : ℕ) where
  operand_kept : (o : Op) (kind : OperandKind) (l : List ℕ) → (operand_of c n kind l).refusal ≡ 0 → So (operand_in_range c n kind (operand (with_operand o kind (operand_of c n kind l)) kind))
  unfolding operand_in_range operand with_operand operand_of is_number
  operand_kept o NoOperand l h = refl
  operand_kept o RegisterR l h = le-leb _ 3 (ranged_kept l 0 3).most
  operand_kept o RegisterS l h = le-leb _ 3 (ranged_kept l 0 3).most
  operand_kept o ValueV l h = value_kept l h
  operand_kept o PlaceT l h = le-leb _ n (ranged_kept l 0 n).most
  operand_kept o BehaviourB l h = let k = ranged_kept l 1 c in both (le-leb 1 _ (k.least h)) (le-leb _ c k.most)
  operand_kept o ProcessQ l h = let k = ranged_kept l 1 16 in both (le-leb 1 _ (k.least h)) (le-leb _ 16 k.most)
  operand_kept o FlagF l h = le-leb _ 1 (ranged_kept l 0 1).most
  operand_kept o CountN l h = let k = ranged_kept l 1 8 in both (le-leb 1 _ (k.least h)) (le-leb _ 8 k.most)
  operand_kept o KindK l h = clause_kept l h

-- ---- operands of kinds that are apart: each is put into fields of its own

abbrev small_kind : OperandKind → Bool
small_kind kind = is_kind FlagF kind || is_kind CountN kind || is_kind KindK kind

abbrev value_kind : OperandKind → Bool
value_kind kind = is_kind ValueV kind || is_kind KindK kind

abbrev pub apart : OperandKind → OperandKind → Bool
apart k j = not (is_kind k j) && not (small_kind k && small_kind j) && not (value_kind k && value_kind j)

record Apart (k j : OperandKind) : Type 0 where
  other : is_kind k j ≡ false
  small : small_kind k ≡ true → small_kind j ≡ false
  value : value_kind k ≡ true → value_kind j ≡ false

apart_of : (k j : OperandKind) → So (apart k j) → Apart k j
apart_of k j h =
    let a = parts (not (is_kind k j) && not (small_kind k && small_kind j)) (not (value_kind k && value_kind j)) h in
    let b = parts (not (is_kind k j)) (not (small_kind k && small_kind j)) a.0 in
    record { other = not-true (is_kind k j) b.0; small = λ e. not-true (small_kind j) (rw e at b.1); value = λ e. not-true (value_kind j) (rw e at a.1) }

operand_untouched : (o : Op) (k j : OperandKind) (x : ReadOperand) → Apart k j → operand (with_operand o j x) k ≡ operand o k
unfolding operand with_operand
operand_untouched o NoOperand j x h = refl
operand_untouched o RegisterR j x h = rw h.other
operand_untouched o RegisterS j x h = rw h.other
operand_untouched o ValueV j x h = rw (h.value refl)
operand_untouched o PlaceT j x h = rw h.other
operand_untouched o BehaviourB j x h = rw h.other
operand_untouched o ProcessQ j x h = rw h.other
operand_untouched o FlagF j x h = rw (h.small refl)
operand_untouched o CountN j x h = rw (h.small refl)
operand_untouched o KindK j x h = rw (h.small refl, h.value refl)

-- each kind is apart from those behind it
unfoldable pub distinct : List OperandKind → Bool
distinct [] = true
distinct (k ∷ ks) = all_of (apart k) ks && distinct ks

pub distinct_kinds : (k : ℕ) → So (distinct (kinds_of k))
unfolding distinct kinds_of
distinct_kinds k = all_of_any distinct [] op_kinds refl refl k

module _ (c n : ℕ) where
  -- a refusal stays, and so does the op's number
  pub operands_clean : (o : Coded) (ks : List OperandKind) (ls : List (List ℕ)) → (operands_of c n o ks ls).refusal ≡ 0 → o.refusal ≡ 0
  unfolding operands_of
  operands_clean o [] ls h = h
  operands_clean o (k ∷ ks) [] h = h
  operands_clean o (k ∷ ks) (l ∷ ls) h = (worse_none o.refusal (operand_of c n k l).refusal (operands_clean (with_joined o k (operand_of c n k l)) ks ls h)).0

  pub operands_number : (o : Coded) (ks : List OperandKind) (ls : List (List ℕ)) → (operands_of c n o ks ls).op.number ≡ o.op.number
  unfolding operands_of with_operand
  operands_number o [] ls = refl
  operands_number o (k ∷ ks) [] = refl
  operands_number o (k ∷ ks) (l ∷ ls) = operands_number (with_joined o k (operand_of c n k l)) ks ls

  pub operands_untouched : (o : Coded) (k : OperandKind) (ks : List OperandKind) (ls : List (List ℕ)) → So (all_of (apart k) ks) → operand (operands_of c n o ks ls).op k ≡ operand o.op k
  unfolding operands_of
  operands_untouched o k [] ls h = refl
  operands_untouched o k (j ∷ ks) [] h = refl
  operands_untouched o k (j ∷ ks) (l ∷ ls) h =
      let w = parts (apart k j) (all_of (apart k) ks) h in
      operands_untouched (with_joined o j (operand_of c n j l)) k ks ls w.1 ∙ operand_untouched o.op k j (operand_of c n j l) (apart_of k j w.0)

  abbrev fitting : Op → OperandKind → Bool
  fitting o k = operand_in_range c n k (operand o k)

  operands_kept : (o : Coded) (ks : List OperandKind) (ls : List (List ℕ)) → length ls ≡ length ks → So (distinct ks) → (operands_of c n o ks ls).refusal ≡ 0
      → So (all_of (fitting (operands_of c n o ks ls).op) ks)
  unfolding operands_of distinct
  operands_kept o [] ls e d h = refl
  operands_kept o (k ∷ ks) [] e d h = absurd (omega (arith, e))
  operands_kept o (k ∷ ks) (l ∷ ls) e d h =
      let w = parts (all_of (apart k) ks) (distinct ks) d in
      let read = operand_of c n k l in
      let next = with_joined o k read in
      let clean = (worse_none o.refusal read.refusal (operands_clean next ks ls h)).1 in
      let here = subst (λ (x : Operand). So (operand_in_range c n k x)) (sym (operands_untouched next k ks ls w.0)) (operand_kept c n o.op k l clean) in
      both here (operands_kept next ks ls (omega arith) w.1 h)

  abbrev OpKept : Coded → Type 0
  OpKept x = x.refusal ≡ 0 → (x.op.number < op_count) × So (all_of (fitting x.op) (kinds_of x.op.number))

  no_code_kept : OpKept no_code
  no_code_kept e = absurd (omega (arith, e))

  op_of_kept : (k : ℕ) (operands : List (List ℕ)) → OpKept (op_of c n k operands)
  unfolding op_of
  op_of_kept k ls = go (ltb k op_count) (eqb (length ls) (get_or operand_counts k 0)) refl refl
    where
      go : (a b : Bool) → ltb k op_count ≡ a → eqb (length ls) (get_or operand_counts k 0) ≡ b → OpKept (cond (a && b) (operands_of c n (bare k) (kinds_of k) ls) no_code)
      go false b p q = no_code_kept
      go true false p q = no_code_kept
      go true true p q = λ e.
          let h = ltb-true k op_count p in
          let size : length ls ≡ length (kinds_of k) = eqb-true (length ls) (get_or operand_counts k 0) q ∙ sym (kinds_length k) in
          let is = operands_number (bare k) (kinds_of k) ls in
          let kept = operands_kept (bare k) (kinds_of k) ls size (distinct_kinds k) e in
          (rw is h, subst (λ (j : ℕ). So (all_of (fitting (operands_of c n (bare k) (kinds_of k) ls).op) (kinds_of j))) (sym is) kept)

  pub op_kept : (line : List ℕ) → (op_told c n line).refusal ≡ 0 → ((op_told c n line).op.number < op_count) × So
      (all_of (λ (k : OperandKind). operand_in_range c n k (operand (op_told c n line).op k))
      (kinds_of (op_told c n line).op.number))
  unfolding op_told coded_of
  op_kept line = go (starts_with op_key line)
    where
      go : (t : Bool) → OpKept (cond t (coded_of c n (fields_of (drop (length op_key) line))) no_code)
      go true = op_of_kept (index_of (get_or (fields_of (drop (length op_key) line)) 0 []) op_words) (drop 1 (fields_of (drop (length op_key) line)))
      go false = no_code_kept
