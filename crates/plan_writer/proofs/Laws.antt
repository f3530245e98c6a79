-- Laws of plan text, in the order in which the code writes it. Assumes nothing.
--   left_op ops_end               a loop over the ops of a behaviour: one more, and the end;  code_wrote  the line `code=` before them
--   code_slice                    a behaviour, where it stands among the ops
--   left_code codes_end           a loop over the behaviours
--   op_word_text                  the letters of the number of an op's word are the word
--   exact_text kind_text_lem      a clause's kind: one exact value, and a word
--   left_operand operands_end     a loop over the operands of an op: one more, and the end
--   left_start starts_end         a loop over the starts of a row
--   plan_parts                    the parts of a plan
use mathlib.Core.Bool.{true, cond}
use mathlib.Core.List.{List, [], ◌∷◌, ◌++◌, append_assoc, map}
use mathlib.Core.Path.{◌≡◌, refl, sym, ap, ◌∙◌}
use Prim.Native.Nat.{ℕ, ◌+◌, ◌*◌, ◌-◌, ◌≤◌, ◌<◌}
use native.Mathlib.Omega.{arith}
use borrow.Author.Tests.{eq-eqb, ne_eqb}
use lib.Dec.{eqb}
use lib.ListN.{length, take, drop, get_or, length-map, length-drop, get_or-map}
use Rattle.node.specs.declared.Behaviours.{Behaviours}
use Rattle.node.specs.declared.Op.{Op}
use Rattle.node.specs.declared.OperandKind.{OperandKind}
use Rattle.node.specs.declared.OperandKind.TheVariants.{NoOperand}
use Rattle.node.specs.declared.Start.{Start}
use Rattle.node.specs.declared.Starts.{Starts}
use Rattle.node.specs.declared.Value.{Value}
use Rattle.node.specs.Lists.{all_of}
use Rattle.node.specs.Nodes.{no_op}
use Rattle.node.specs.Ops.{kinds_of, operand_counts, operand_kind, op_words}
use Rattle.node.specs.Starts.{no_start, starts_in}
use Rattle.node.specs.Texts.{bytes}
use Rattle.node.specs.Values.{any_kind, exact_kind, int_zero}
use Rattle.node.proofs.Lists.{firsts_get_d, firsts_length, firsts_take}
use Rattle.node.proofs.Ops.{kinds_length}
use Rattle.rules.specs.Behaviours.{Instruction, Operand, instruction, operand}
use Rattle.rules.proofs.All.{all_of_any}
use Rattle.behaviours.specs.Codes.{code_in, codes_in}
use Rattle.behaviours.proofs.Codes.{codes_at, codes_length}
use Rattle.text.specs.Values.{value_text}
use Rattle.text.specs.Writing.{Wrote, each, number_line}
use Rattle.text.proofs.Writing.{Left, each_append, each_map, left_end, left_item, wrote_as, ◌▸◌}
use Rattle.words.specs.Words.{is_letter, letters, packed}
use Rattle.words.proofs.Letters.{letters_packed}
use Rattle.plan_line.specs.Lines.{header, behaviours_key, code_key, starts_key}
use Rattle.plan_line.specs.Ops.{clause_words}
use Rattle.plan_writer.specs.Answers.{codes_of}
use Rattle.plan_writer.specs.Texts.{kind_text, operand_text, operands_text, operands_of, op_row, code_rows, codes_rows, start_row, ended, plan_rows, plan_text}

codes_text_lem : (codes : List (List Instruction)) → each ended (codes_rows codes) ≡ each (λ (code : List Instruction). each ended (code_rows code)) codes
unfolding codes_rows each
codes_text_lem [] = refl
codes_text_lem (code ∷ codes) = each_append ended (code_rows code) (codes_rows codes) ∙ ap (λ (l : List ℕ). each ended (code_rows code) ++ l) (codes_text_lem codes)

abbrev pub op_text : Instruction → List ℕ
op_text x = ended (op_row x)

code_text_lem : (code : List Instruction) → each ended (code_rows code) ≡ number_line code_key (length code) ++ each op_text code
unfolding code_rows each number_line
code_text_lem code = ap (λ (l : List ℕ). number_line code_key (length code) ++ l) (each_map ended op_row code)

module _ (ops : List Op) (t : ℕ) {old m : List ℕ} {a e : ℕ} (p : Left old a (each op_text (map instruction ops)) m e (each op_text (drop t (map instruction ops)))) where
  pub left_op : {u : List ℕ} {r : ℕ} → t < length ops → Wrote m e (op_text (instruction (get_or ops t no_op))) u r
      → Left old a (each op_text (map instruction ops)) u r (each op_text (drop (t + 1) (map instruction ops)))
  left_op h q =
      left_item op_text (map instruction ops) t p (instruction no_op) (omega (arith, length-map ops instruction))
      (wrote_as (ap op_text (sym (get_or-map instruction ops t no_op))) q)

  pub ops_end : length ops ≤ t → Wrote old a (each op_text (map instruction ops)) m e
  ops_end h = left_end op_text (map instruction ops) t p (omega (arith, length-map ops instruction))

-- the line `code=` and the ops behind it
pub code_wrote : (ops : List Op) {old m u : List ℕ} {a e r : ℕ} → Wrote old a (number_line code_key (length ops)) m e → Wrote m e (each op_text (map instruction ops)) u r
    → Wrote old a (each ended (code_rows (map instruction ops))) u r
code_wrote ops p q =
    let text = ap (λ (j : ℕ). number_line code_key j ++ each op_text (map instruction ops)) (sym (length-map ops instruction)) in
    wrote_as (text ∙ sym (code_text_lem (map instruction ops))) (p ▸ q)

-- behaviour k, where it stands among the ops
pub code_slice : (n : ℕ) (ops : List Op) (k : ℕ) {j : ℕ} → j ≡ n → 32 * k + n ≤ length ops → map instruction (take j (drop (32 * k) ops)) ≡ code_in n ops k
unfolding code_in
code_slice n ops k e h =
    ap (λ (i : ℕ). map instruction (take i (drop (32 * k) ops))) e
    ∙ ap (map instruction) (sym (firsts_take no_op n (drop (32 * k) ops) (omega (arith, length-drop (32 * k) ops))))

-- ---- all behaviours

abbrev pub code_text : List Instruction → List ℕ
code_text code = each ended (code_rows code)

module _ (c : ℕ) (lens : List ℕ) (ops : List Op) (k : ℕ) {old m : List ℕ} {a e : ℕ} (p : Left old a (each code_text (codes_in c lens ops)) m e (each code_text (drop k (codes_in c lens ops)))) where
  pub left_code : {u : List ℕ} {r : ℕ} → k < c → Wrote m e (code_text (code_in (get_or lens k 0) ops k)) u r
      → Left old a (each code_text (codes_in c lens ops)) u r (each code_text (drop (k + 1) (codes_in c lens ops)))
  left_code h q =
      left_item code_text (codes_in c lens ops) k p [] (omega (arith, codes_length c lens ops)) (wrote_as (ap code_text (sym (codes_at c lens ops k h))) q)

  pub codes_end : c ≤ k → Wrote old a (each ended (codes_rows (codes_in c lens ops))) m e
  codes_end h = wrote_as (sym (codes_text_lem (codes_in c lens ops))) (left_end code_text (codes_in c lens ops) k p (omega (arith, codes_length c lens ops)))

-- ---- words

word_text : (ws : List (List ℕ)) (k : ℕ) → all_of (all_of is_letter) ws ≡ true → letters (packed (get_or ws k [])) ≡ get_or ws k []
word_text ws k h = letters_packed (get_or ws k []) (all_of_any (all_of is_letter) [] ws refl h k)

pub op_word_text : (n : ℕ) → letters (packed (get_or op_words n [])) ≡ get_or op_words n []
op_word_text n = word_text op_words n refl

-- ---- a clause's kind

abbrev kind_operand : ℕ → Value → Operand
kind_operand k v = record { number = k; value = cond (eqb k exact_kind) v int_zero }

pub exact_text : (k : ℕ) (v : Value) → k ≡ exact_kind → value_text v ≡ kind_text (kind_operand k v)
unfolding kind_text
exact_text k v e = rw (eq-eqb k exact_kind e)

pub kind_text_lem : (k : ℕ) (v : Value) {w : ℕ} → (k ≡ exact_kind → ⊥) → w ≡ packed (get_or clause_words (k - any_kind) []) → letters w ≡ kind_text (kind_operand k v)
unfolding kind_text
kind_text_lem k v n e = ap letters e ∙ word_text clause_words (k - any_kind) refl ∙ rw (ne_eqb k exact_kind n)

-- ---- operands

abbrev pub operand_in : Op → OperandKind → List ℕ
operand_in o kind = bytes "," ++ operand_text kind (operand o kind)

kinds_text : (o : Op) (ks : List OperandKind) → operands_text ks (map (operand o) ks) ≡ each (operand_in o) ks
unfolding operands_text each
kinds_text o [] = refl
kinds_text o (k ∷ ks) = ap (λ (l : List ℕ). operand_in o k ++ l) (kinds_text o ks)

operands_text_lem : (o : Op) → operands_of (instruction o) ≡ each (operand_in o) (kinds_of o.number)
unfolding instruction
operands_text_lem o = kinds_text o (kinds_of o.number)

module _ (o : Op) (i : ℕ) {old m : List ℕ} {a e : ℕ} (p : Left old a (each (operand_in o) (kinds_of o.number)) m e (each (operand_in o) (drop i (kinds_of o.number)))) {n : ℕ}
    (count : n ≡ get_or operand_counts o.number 0) where
  pub left_operand : {kind : OperandKind} {u : List ℕ} {r : ℕ} → i < n → kind ≡ operand_kind o.number i → Wrote m e (operand_in o kind) u r
      → Left old a (each (operand_in o) (kinds_of o.number)) u r (each (operand_in o) (drop (i + 1) (kinds_of o.number)))
  unfolding operand_kind
  left_operand h is q =
      left_item (operand_in o) (kinds_of o.number) i p NoOperand (omega (arith, count, kinds_length o.number)) (wrote_as (ap (operand_in o) is) q)

  pub operands_end : n ≤ i → Wrote old a (operands_of (instruction o)) m e
  operands_end h = wrote_as (sym (operands_text_lem o)) (left_end (operand_in o) (kinds_of o.number) i p (omega (arith, count, kinds_length o.number)))

-- ---- starts

abbrev pub start_text : Start → List ℕ
start_text s = ended (start_row s)

module _ (s : Starts) (k : ℕ) {old m : List ℕ} {a e : ℕ} (p : Left old a (each start_text (starts_in s)) m e (each start_text (drop k (starts_in s)))) where
  pub left_start : {u : List ℕ} {r : ℕ} → k < s.count → Wrote m e (start_text (get_or s.list k no_start)) u r
      → Left old a (each start_text (starts_in s)) u r (each start_text (drop (k + 1) (starts_in s)))
  left_start h q =
      left_item start_text (starts_in s) k p no_start (omega (arith, firsts_length no_start s.count s.list))
      (wrote_as (ap start_text (sym (firsts_get_d no_start s.count s.list k h))) q)

  pub starts_end : s.count ≤ k → Wrote old a (each ended (map start_row (starts_in s))) m e
  starts_end h = wrote_as (sym (each_map ended start_row (starts_in s))) (left_end start_text (starts_in s) k p (omega (arith, firsts_length no_start s.count s.list)))

-- ---- a plan

plan_text_lem : (codes : List (List Instruction)) (starts : List Start)
    → ended header ++ number_line behaviours_key (length codes) ++ each ended (codes_rows codes) ++ number_line starts_key (length starts) ++ each ended (map start_row starts) ≡ plan_text codes starts
unfolding plan_text plan_rows each number_line
plan_text_lem codes starts =
    let h = ended header in
    let b = number_line behaviours_key (length codes) in
    let cs = each ended (codes_rows codes) in
    let s = number_line starts_key (length starts) in
    let ss = each ended (map start_row starts) in
    append_assoc (h ++ b ++ cs) s ss ∙ append_assoc (h ++ b) cs (s ++ ss) ∙ append_assoc h b (cs ++ (s ++ ss))
    ∙ ap (λ (l : List ℕ). h ++ (b ++ l)) (sym (each_append ended (codes_rows codes) _))

-- the same by the counts that the code reads
pub plan_parts : (b : Behaviours) (s : Starts)
    → ended header ++ number_line behaviours_key b.count ++ each ended (codes_rows (codes_of b)) ++ number_line starts_key s.count ++ each ended (map start_row (starts_in s))
    ≡ plan_text (codes_of b) (starts_in s)
plan_parts b s =
    let cs = each ended (codes_rows (codes_of b)) in
    let ss = each ended (map start_row (starts_in s)) in
    ap (λ (n : ℕ). ended header ++ number_line behaviours_key n ++ cs ++ number_line starts_key s.count ++ ss) (sym (codes_length b.count b.lens b.ops))
    ∙ ap (λ (n : ℕ). ended header ++ number_line behaviours_key (length (codes_of b)) ++ cs ++ number_line starts_key n ++ ss) (sym (firsts_length no_start s.count s.list))
    ∙ plan_text_lem (codes_of b) (starts_in s)
