-- How long the text of a plan is at most. Assumes nothing.
--   room k           what an operand of kind k has at most;  room_of ks  the operands of these kinds, a comma before each
--   operand_within op_within   an operand, and the line of an op
--   code_within codes_within start_within starts_within   the lines of behaviours and of starts
--   plan_short       the text of a plan has at most `longest_plan` bytes
use mathlib.Core.Bool.{Bool, true, false, So, ◌&&◌, cond}
use mathlib.Core.List.{List, [], ◌∷◌, map}
use mathlib.Core.Path.{◌≡◌, refl}
use Prim.Native.Nat.{ℕ, ◌+◌, ◌*◌, ◌-◌, ◌≤◌}
use native.Mathlib.Omega.{arith}
use borrow.Author.Tests.{leb-true}
use lib.Dec.{eqb, leb, ltb}
use lib.ListN.{get_or, length, length-map, get_or-map}
use Rattle.node.specs.declared.Op.{Op}
use Rattle.node.specs.declared.OperandKind.{OperandKind}
use Rattle.node.specs.declared.OperandKind.TheVariants.{NoOperand, RegisterR, RegisterS, ValueV, PlaceT, BehaviourB, ProcessQ, FlagF, CountN, KindK}
use Rattle.node.specs.declared.Start.{Start}
use Rattle.node.specs.Lists.{all_of, all_two}
use Rattle.node.specs.Nodes.{no_op}
use Rattle.node.specs.Ops.{form, kinds_of, op_count, OpForm, op_forms, op_words}
use Rattle.node.specs.Texts.{bytes}
use Rattle.node.specs.Values.{any_kind, exact_kind, last_kind, value_sound}
use Rattle.node.proofs.Lists.{all_of_from}
use Rattle.rules.specs.Behaviours.{code_sound, in_range, Instruction, instruction, Operand, operand, operand_in_range}
use Rattle.rules.proofs.All.{all_from_of, all_of_any, parts}
use Rattle.rules.proofs.Places.{code_short, facts}
use Rattle.rules.proofs.Records.{number_bounds}
use Rattle.text.specs.Values.{value_text}
use Rattle.text.specs.Writing.{digits, each, line_end, number_line}
use Rattle.plan_line.specs.Lines.{behaviours_key, code_key, header, op_key, start_key, starts_key}
use Rattle.plan_line.specs.Ops.{clause_words}
use Rattle.listing_lines.proofs.Longest.{◌⊕◌, digits_within, each_within, exactly, loosely, number_line_within, value_within, Within}
use Rattle.text.proofs.Writing.{each_append, each_map}
use Rattle.plan_writer.specs.Answers.{plan_sound, start_fits, starts_rise, starts_sound}
use Rattle.plan_writer.specs.Texts.{code_rows, codes_rows, ended, kind_text, longest_plan, numbered, operands_text, operand_text, op_row, plan_rows, plan_text, start_row}

-- ---- operands

unfoldable room : OperandKind → ℕ
room NoOperand = 1
room RegisterR = 1
room RegisterS = 1
room ValueV = 12
room PlaceT = 2
room BehaviourB = 1
room ProcessQ = 2
room FlagF = 1
room CountN = 1
room KindK = 12

unfoldable room_of : List OperandKind → ℕ
room_of [] = 0
room_of (k ∷ ks) = 1 + room k + room_of ks

kind_within : (x : Operand) → So (value_sound x.value) → Within (kind_text x) 12
unfolding kind_text
kind_within x h = go (eqb x.number exact_kind)
  where
    go : (t : Bool) → Within (cond t (value_text x.value) (get_or clause_words (x.number - any_kind) [])) 12
    go true = value_within x.value h
    go false = record { most = leb-true _ 12 (all_of_any (λ (w : List ℕ). leb (length w) 12) [] clause_words refl refl (x.number - any_kind)) }

-- the longest line of each op has at most 30 bytes
fits : OpForm → Bool
fits f = leb (length op_key + length f.word + room_of f.operands + length line_end) 30

op_fits : (k : ℕ) → length op_key + length (get_or op_words k []) + room_of (kinds_of k) + length line_end ≤ 30
unfolding kinds_of room room_of fits
op_fits k =
    let none = form "" [] in
    let f = get_or op_forms k none in
    let word : get_or op_words k [] ≡ f.word = get_or-map (λ (f : OpForm). f.word) op_forms k none in
    let kinds : kinds_of k ≡ f.operands = get_or-map (λ (f : OpForm). f.operands) op_forms k none in
    rw (word, kinds) (leb-true _ 30 (all_of_any fits none op_forms refl refl k))

-- a plan with c behaviours, a code with n ops
module _ (c n : ℕ) (few : c ≤ 8) (short : n ≤ 32) where
  module _ (o : Op) where
    operand_within : (k : OperandKind) → So (operand_in_range c n k (operand o k)) → Within (operand_text k (operand o k)) (room k)
    unfolding operand_in_range operand_text operand room
    operand_within NoOperand h = digits_within 0 0 (omega arith)
    operand_within RegisterR h = let l = leb-true o.r 3 h in digits_within 0 o.r (omega arith)
    operand_within RegisterS h = let l = leb-true o.s 3 h in digits_within 0 o.s (omega arith)
    operand_within ValueV h = value_within o.value h
    operand_within PlaceT h = let l = leb-true o.target n h in digits_within 1 o.target (omega arith)
    operand_within BehaviourB h =
        let l = leb-true o.behaviour.0 c (parts (leb 1 o.behaviour.0) (leb o.behaviour.0 c) h).1 in
        digits_within 0 o.behaviour.0 (omega arith)
    operand_within ProcessQ h = let l = number_bounds o.process.0 h in digits_within 1 o.process.0 (omega arith)
    operand_within FlagF h = let l = leb-true o.small 1 h in digits_within 0 o.small (omega arith)
    operand_within CountN h = let l = leb-true o.small 8 (parts (leb 1 o.small) (leb o.small 8) h).1 in digits_within 0 o.small (omega arith)
    operand_within KindK h = kind_within (operand o KindK) (parts (leb o.small last_kind) (value_sound (operand o KindK).value) h).1

    operands_within : (ks : List OperandKind) → So (all_two (operand_in_range c n) ks (map (operand o) ks)) → Within (operands_text ks (map (operand o) ks)) (room_of ks)
    unfolding operands_text room_of
    operands_within [] h = exactly []
    operands_within (k ∷ ks) h =
        let w = parts (operand_in_range c n k (operand o k)) (all_two (operand_in_range c n) ks (map (operand o) ks)) h in
        exactly (bytes ",") ⊕ operand_within k w.0 ⊕ operands_within ks w.1

  -- the line of an op: the table of ops has no longer one
  op_within : (o : Op) → So (in_range c n (instruction o)) → Within (ended (op_row (instruction o))) 30
  unfolding op_row instruction in_range
  op_within o h =
      let kinds = kinds_of o.number in
      let w = parts (ltb o.number op_count) (all_two (operand_in_range c n) kinds (map (operand o) kinds)) h in
      loosely 30 (op_fits o.number) (exactly op_key ⊕ exactly (get_or op_words o.number []) ⊕ operands_within o kinds w.1 ⊕ exactly line_end)

-- ---- behaviours and starts

-- a row with a key and a number
row_within : (key : List ℕ) (n : ℕ) {k : ℕ} → Within (digits n) k → Within (ended (numbered key n)) (length key + k + 1)
unfolding number_line
row_within key n = number_line_within key n

module _ (c : ℕ) (few : c ≤ 8) where
  code_within : (ops : List Op) → So (code_sound c (map instruction ops)) → Within (each ended (code_rows (map instruction ops))) 968
  unfolding code_rows each
  code_within ops h =
      let xs = map instruction ops in
      let short = code_short c xs h in
      let test : Op → Bool = λ o. in_range c (length xs) (instruction o) in
      let all : So (all_of test ops) = rw (all_of_from test 0 ops) (all_from_of (λ (k : ℕ) (o : Op). test o) no_op 0 ops (λ k g. (facts c ops h k g (get_or ops k no_op) refl).0)) in
      let lines = each_within (λ (o : Op). ended (op_row (instruction o))) test 30 (op_within c (length xs) few short) ops all in
      rw (each_map ended op_row xs, each_map (λ (x : Instruction). ended (op_row x)) instruction ops)
      (row_within code_key (length xs) (digits_within 1 (length xs) (omega arith)) ⊕ loosely 960 (omega (arith, short, length-map ops instruction)) lines)

  codes_within : (codes : List (List Op)) → So (all_of (code_sound c) (map (map instruction) codes)) → Within (each ended (codes_rows (map (map instruction) codes))) (length codes * 968)
  unfolding codes_rows each
  codes_within [] h = exactly []
  codes_within (ops ∷ codes) h =
      let rest = map (map instruction) codes in
      let w = parts (code_sound c (map instruction ops)) (all_of (code_sound c) rest) h in
      rw (each_append ended (code_rows (map instruction ops)) (codes_rows rest))
      (loosely (length (ops ∷ codes) * 968) (omega arith) (code_within ops w.0 ⊕ codes_within codes w.1))

  start_within : (last : ℕ) (s : Start) → So (start_fits c last s) → Within (ended (start_row s)) 11
  unfolding start_row
  start_within last s h =
      let p = s.process.0 in
      let b = s.behaviour.0 in
      let w = parts (ltb last p && leb p 16) (leb 1 b && leb b c) h in
      let process = leb-true p 16 (parts (ltb last p) (leb p 16) w.0).1 in
      let behaviour = leb-true b c (parts (leb 1 b) (leb b c) w.1).1 in
      exactly start_key ⊕ digits_within 1 p (omega arith) ⊕ exactly (bytes ",") ⊕ digits_within 0 b (omega arith) ⊕ exactly line_end

  starts_within : (last : ℕ) (starts : List Start) → So (starts_rise c last starts) → Within (each ended (map start_row starts)) (length starts * 11)
  unfolding starts_rise each
  starts_within last [] h = exactly []
  starts_within last (s ∷ starts) h =
      let w = parts (start_fits c last s) (starts_rise c s.process.0 starts) h in
      loosely (length (s ∷ starts) * 11) (omega arith) (start_within last s w.0 ⊕ starts_within s.process.0 starts w.1)

pub plan_short : (codes : List (List Op)) (starts : List Start) → So (plan_sound (map (map instruction) codes) starts) → length (plan_text (map (map instruction) codes) starts) ≤ longest_plan
unfolding plan_sound plan_text plan_rows each
plan_short codes starts h =
    let xs = map (map instruction) codes in
    let c = length xs in
    let m = length starts in
    let w = parts (leb 1 c && leb c 8 && all_of (code_sound c) xs) (starts_sound c starts) h in
    let v = parts (leb 1 c && leb c 8) (all_of (code_sound c) xs) w.0 in
    let few = leb-true c 8 (parts (leb 1 c) (leb c 8) v.0).1 in
    let z = parts (leb 1 m && leb m 16) (starts_rise c 0 starts) w.1 in
    let begun = leb-true m 16 (parts (leb 1 m) (leb m 16) z.0).1 in
    let behind = row_within starts_key m (digits_within 1 m (omega arith)) ⊕ starts_within c few 0 starts z.1 in
    rw (each_append ended (codes_rows xs) (numbered starts_key m ∷ map start_row starts))
    (loosely longest_plan (omega (arith, length-map codes (map instruction)))
    (exactly (ended header) ⊕ (row_within behaviours_key c (digits_within 0 c (omega arith)) ⊕ (codes_within c few codes v.1 ⊕ behind)))).most
