-- A line `op=` that is written is read back: the op that is read has the same number and operands. Assumes nothing.
--   index_read      a word of a table without a word twice is found at its place
--   operand_read    an operand in range;  operand_put  the op that it is put into has it
--   operands_read   all operands of an op
--   op_read         an op in range
use mathlib.Core.Bool.{Bool, true, false, So, ◌&&◌, cond}
use mathlib.Core.List.{List, [], ◌∷◌, ◌++◌, append-nil, map}
use mathlib.Core.Path.{◌≡◌, refl, ap, ◌∙◌}
use Prim.Native.Nat.{ℕ, zero, suc, ◌+◌, ◌-◌, ◌≤◌, ◌<◌}
use Prim.Native.Char.{code}
use native.Mathlib.Nat.{zero-add}
use native.Mathlib.Omega.{arith}
use borrow.Author.Tests.{eq-eqb, eqb-true, le-leb, leb-true, lt-ltb, ltb-true, ne_eqb}
use lib.Dec.{eqb, leb, ltb}
use lib.IntN.{pos, negsuc}
use lib.ListN.{get_or, length, length-map}
use Rattle.node.specs.declared.Op.{Op}
use Rattle.node.specs.declared.OperandKind.{OperandKind}
use Rattle.node.specs.declared.OperandKind.TheVariants.{NoOperand, RegisterR, RegisterS, ValueV, PlaceT, BehaviourB, ProcessQ, FlagF, CountN, KindK}
use Rattle.node.specs.declared.Value.{Value}
use Rattle.node.specs.declared.Value.TheVariants.{Int, Atom, Pid}
use Rattle.node.specs.Lists.{all_from, all_of, all_two}
use Rattle.node.specs.Ops.{kinds_of, op_count, operand_counts, op_words}
use Rattle.node.specs.Values.{any_kind, exact_kind, int_zero, is_number, last_kind, value_sound}
use Rattle.node.proofs.Lists.{all_from_at, all_two_map}
use Rattle.node.proofs.Ops.{kinds_length}
use Rattle.rules.specs.Answers.{done}
use Rattle.rules.specs.Behaviours.{in_range, instruction, Operand, operand, operand_in_range}
use Rattle.rules.proofs.All.{all_of_at, both, parts}
use Rattle.text.specs.Numbers.{is_digit}
use Rattle.text.specs.Parts.{equal, fields_of, index_of}
use Rattle.text.specs.Values.{number_text, value_text}
use Rattle.text.specs.Writing.{digits, int_text}
use Rattle.text.proofs.Digits.{digits_some}
use Rattle.text.proofs.Parts.{equal_true}
use Rattle.plan_line.specs.Ops.{Coded}
use Rattle.plan_line.specs.Lines.{op, op_key, op_line, op_told}
use Rattle.plan_line.specs.Ops.{bare, clause_kind, clause_words, coded_of, no_code, operand_of, operands_of, op_of, ranged, with_joined, with_operand, worse}
use Rattle.plan_line.proofs.InRange.{apart, distinct, distinct_kinds, operands_number, operands_untouched}
use Rattle.plan_writer.specs.Texts.{kind_text, operands_text, operand_text, op_row}
use Rattle.round_trip.proofs.Plain.{field_front, field_whole, operand_plain, plain, word_plain}
use Rattle.round_trip.proofs.ReadLines.{behind_read}
use Rattle.round_trip.proofs.ReadNumbers.{digit_bounds, digits_written, tested_read, value_read}

-- ---- words

abbrev in_place : List (List ℕ) → Bool
in_place ws = all_from (λ (k : ℕ) (w : List ℕ). eqb (index_of w ws) k) 0 ws

index_read : (ws : List (List ℕ)) → So (in_place ws) → (k : ℕ) → k < length ws → index_of (get_or ws k []) ws ≡ k
index_read ws h k l =
    eqb-true (index_of (get_or ws k []) ws) k (rw zero-add at (all_from_at (λ (j : ℕ) (w : List ℕ). eqb (index_of w ws) j) 0 ws k [] h l))

op_word_read : (k : ℕ) → k < op_count → index_of (get_or op_words k []) op_words ≡ k
unfolding index_of equal
op_word_read = index_read op_words refl

clause_word_read : (k : ℕ) → k < length clause_words → index_of (get_or clause_words k []) clause_words ≡ k
unfolding index_of equal
clause_word_read = index_read clause_words refl

-- ---- values are no words of clause kinds: the second byte of such a word is a letter

digit_first : (n : ℕ) → get_or (digits n) 0 0 ≤ code "9"
digit_first n = (digit_bounds (get_or (digits n) 0 0) (all_of_at is_digit 0 (digits n) (digits_written n).digits 0 (digits_some n))).1

value_second : (v : Value) → get_or (value_text v) 1 0 ≤ code "9"
unfolding value_text number_text int_text
value_second (Int (pos n)) = digit_first n
value_second (Int (negsuc n)) = omega arith
value_second (Atom a) = digit_first a
value_second (Pid i) = digit_first i.0

abbrev lettered : List ℕ → Bool
lettered w = ltb (code "9") (get_or w 1 0)

no_word : (l : List ℕ) → get_or l 1 0 ≤ code "9" → (ws : List (List ℕ)) → So (all_of lettered ws) → index_of l ws ≡ length ws
unfolding index_of
no_word l low [] h = refl
no_word l low (w ∷ ws) h = let q = parts (lettered w) (all_of lettered ws) h in go (equal w l) refl (ltb-true (code "9") (get_or w 1 0) q.0) (no_word l low ws q.1)
  where
    go : (t : Bool) → equal w l ≡ t → code "9" < get_or w 1 0 → index_of l ws ≡ length ws → cond t 0 (suc (index_of l ws)) ≡ suc (length ws)
    go true e high ih = let same : get_or w 1 0 ≡ get_or l 1 0 = ap (λ (k : List ℕ). get_or k 1 0) (equal_true w l e) in absurd (omega (arith, low, high, same))
    go false e high ih = ap suc ih

value_no_word : (v : Value) → index_of (value_text v) clause_words ≡ length clause_words
value_no_word v = no_word (value_text v) (value_second v) clause_words refl

-- ---- a clause's kind

module _ (v : Value) where
  -- the operand that an op with a small number and the value v has
  abbrev kind_operand : ℕ → Operand
  kind_operand small = record { number = small; value = cond (eqb small exact_kind) v int_zero }

  kind_read : (small : ℕ) → small ≤ last_kind → So (value_sound (kind_operand small).value)
      → clause_kind (kind_text (kind_operand small)) ≡ record { refusal = 0; number = small; value = (kind_operand small).value }
  unfolding clause_kind kind_text
  kind_read zero h g = rw (value_no_word v, value_read v g)
  kind_read (suc j) h g =
      let e : suc j - any_kind ≡ j = omega arith in
      let f : j + any_kind ≡ suc j = omega arith in
      rw (ne_eqb (suc j) exact_kind (λ q. omega (arith, q)), e, clause_word_read j (omega arith), lt-ltb j (length clause_words) (omega arith), f)

-- ---- operands

module _ (o : Op) where
  abbrev written : OperandKind → List ℕ
  written k = operand_text k (operand o k)

  fields_read : (w : List ℕ) → So (plain w) → (ks : List OperandKind) → fields_of (w ++ operands_text ks (map (operand o) ks)) ≡ w ∷ map written ks
  unfolding operands_text
  fields_read w h [] = rw (append-nil w) (field_whole w h)
  fields_read w h (k ∷ ks) =
      field_front w h (written k ++ operands_text ks (map (operand o) ks))
      ∙ ap (λ (ls : List (List ℕ)). w ∷ ls) (fields_read (written k) (operand_plain k (operand o k)) ks)

  -- an op into which an operand of o is put has it
  operand_put : (p : Op) (k : OperandKind) → operand (with_operand p k (record { refusal = 0; number = (operand o k).number; value = (operand o k).value })) k ≡ operand o k
  unfolding operand with_operand
  operand_put p NoOperand = refl
  operand_put p RegisterR = refl
  operand_put p RegisterS = refl
  operand_put p ValueV = refl
  operand_put p PlaceT = refl
  operand_put p BehaviourB = refl
  operand_put p ProcessQ = refl
  operand_put p FlagF = refl
  operand_put p CountN = refl
  operand_put p KindK = go (eqb o.small exact_kind)
    where
      go : (t : Bool) → ◌≡◌ {A = Operand} (record { number = o.small; value = cond t (cond t o.value int_zero) int_zero }) (record { number = o.small; value = cond t o.value int_zero })
      go true = refl
      go false = refl

-- numbers, low to high and 0 to high
between_read : (x low high : ℕ) → high ≤ 255 → So (leb low x && leb x high) → ranged low high (digits x) ≡ record { refusal = 0; number = x; value = int_zero }
between_read x low high h f = rw (tested_read x low high h f)

up_to_read : (x high : ℕ) → high ≤ 255 → So (leb x high) → ranged 0 high (digits x) ≡ record { refusal = 0; number = x; value = int_zero }
up_to_read x high h f = between_read x 0 high h (both (le-leb 0 x (omega arith)) f)

module _ (c n : ℕ) (few : c ≤ 255) (short : n ≤ 255) (o : Op) where
  abbrev fits : OperandKind → Bool
  fits k = operand_in_range c n k (operand o k)

  operand_read : (k : OperandKind) → So (fits k) → operand_of c n k (written o k) ≡ record { refusal = 0; number = (operand o k).number; value = (operand o k).value }
  unfolding operand_in_range operand operand_text operand_of is_number
  operand_read NoOperand h = up_to_read 0 0 (omega arith) refl
  operand_read RegisterR h = up_to_read o.r 3 (omega arith) h
  operand_read RegisterS h = up_to_read o.s 3 (omega arith) h
  operand_read ValueV h = rw (value_read o.value h)
  operand_read PlaceT h = up_to_read o.target n short h
  operand_read BehaviourB h = between_read o.behaviour.0 1 c few h
  operand_read ProcessQ h = between_read o.process.0 1 16 (omega arith) h
  operand_read FlagF h = up_to_read o.small 1 (omega arith) h
  operand_read CountN h = between_read o.small 1 8 (omega arith) h
  operand_read KindK h =
      let w = parts (leb o.small last_kind) (value_sound (kind_operand o.value o.small).value) h in
      kind_read o.value o.small (leb-true o.small last_kind w.0) w.1

  operands_read : (x : Coded) (ks : List OperandKind) → x.refusal ≡ 0 → So (distinct ks) → So (all_of fits ks)
      → ((operands_of c n x ks (map (written o) ks)).refusal ≡ 0) × (map (operand (operands_of c n x ks (map (written o) ks)).op) ks ≡ map (operand o) ks)
  unfolding operands_of distinct worse
  operands_read x [] e d h = (e, refl)
  operands_read x (k ∷ ks) e d h =
      let w = parts (all_of (apart k) ks) (distinct ks) d in
      let f = parts (fits k) (all_of fits ks) h in
      let is = operand_read k f.0 in
      let next = with_joined x k (operand_of c n k (written o k)) in
      let rest = operands_read next ks (rw (e, is)) w.1 f.1 in
      let here : operand (operands_of c n next ks (map (written o) ks)).op k ≡ operand o k =
      operands_untouched c n next k ks (map (written o) ks) w.0 ∙ ap (λ r. operand (with_operand x.op k r) k) is ∙ operand_put o x.op k in
      let same = rest.1 in
      (rest.0, cc)

pub op_read : (c n : ℕ) (o : Op) → c ≤ 255 → n ≤ 255 → So (in_range c n (instruction o))
    → (p : Op) × (op_line c n (op_row (instruction o)) ≡ done p) × (instruction p ≡ instruction o)
unfolding op_line op_told coded_of op_of op_row in_range instruction
op_read c n o few short h =
    let k = o.number in
    let ks = kinds_of k in
    let ls = map (written o) ks in
    let word = get_or op_words k [] in
    let p = operands_of c n (bare k) ks ls in
    let w = parts (ltb k op_count) (all_two (operand_in_range c n) ks (map (operand o) ks)) h in
    let fit = rw (all_two_map (operand_in_range c n) (operand o) ks) at w.1 in
    let read = operands_read c n few short o (bare k) ks refl (distinct_kinds k) fit in
    let count = eq-eqb (length ls) (get_or operand_counts k 0) (length-map ks (written o) ∙ kinds_length k) in
    let told : op_told c n (op_row (instruction o)) ≡ p =
    behind_read op_key no_code (λ l. coded_of c n (fields_of l)) (word ++ operands_text ks (map (operand o) ks))
    ∙ rw (fields_read o word (word_plain k) ks, op_word_read k (ltb-true k op_count w.0), w.0, count) in
    let same : instruction p.op ≡ instruction o = rw (operands_number c n (bare k) ks ls) (ap (λ (xs : List Operand). record { number = k; operands = xs }) read.1) in
    (p.op, ap op told ∙ rw read.0, same)
