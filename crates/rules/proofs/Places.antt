-- Places and operands of the ops of a sound behaviour: what stands behind an op, where a target leads, and where a process begins. Assumes nothing.
use mathlib.Core.Bool.{Bool, true, false, not, So, ◌&&◌, ◌||◌, false≢true}
use mathlib.Core.List.{List, [], ◌∷◌, ◌++◌, map}
use mathlib.Core.Path.{◌≡◌, refl, ◌∙◌, ap, subst}
use Prim.Native.Nat.{ℕ, suc, ◌+◌, ◌-◌, ◌≤◌, ◌<◌}
use native.Mathlib.Omega.{arith}
use borrow.Author.Tests.{leb-true, leb-false, le-leb}
use lib.Dec.{leb, ltb, eqb}
use lib.ListN.{length, get_or, take, drop, length-map, length-drop, get_or-eq_default}
use lib.Seq.{take-suc}
use Rattle.node.specs.declared.BehaviourNumber.{BehaviourNumber}
use Rattle.node.specs.declared.Op.{Op}
use Rattle.node.specs.declared.OperandKind.TheVariants.{NoOperand, PlaceT}
use Rattle.node.specs.declared.Value.{Value}
use Rattle.node.specs.Lists.{all_from, all_of, all_two}
use Rattle.node.specs.Nodes.{no_op}
use Rattle.node.specs.Ops.{kinds_of, op_count, recv_op}
use Rattle.node.specs.Processes.{fresh}
use Rattle.node.proofs.Lists.{all_from_at}
use Rattle.rules.specs.Behaviours.{Instruction, instruction, numeric, operand, operand_in_range, in_range, on_part, is_recv, is_clause, is_after, clause_count, no_instruction, has_clauses, due_next}
use Rattle.rules.specs.Behaviours.{due, target_free, targets_free, well_placed, code_sound}
use Rattle.rules.specs.Nodes.{standing, standing_sound}
use Rattle.node.specs.Values.{fits_int, value_sound}
use Rattle.rules.proofs.All.{parts, all_of_at, map_at, all_two_at}
use Rattle.rules.proofs.Living.{code_of, Alive, alive_sound, none_apart, empty_mailed}

-- ---- places

-- one more op behind the others
due_behind : (k : ℕ) (l : List Instruction) (x : Instruction) → due k (l ++ (x ∷ [])) ≡ due_next (due k l) x
due_behind k [] x = refl
due_behind k (y ∷ l) x = due_behind (due_next k y) l x

-- the four rules of 14
pub record WellPlaced (code : List Instruction) (t : ℕ) (x : Instruction) : Type 0 where
  pub recv : So (not (is_recv x) || has_clauses (clause_count x) (drop (t + 1) code))
  pub clause : So (not (is_clause x) || ltb 1 (due 0 (take t code)))
  pub after : So (not (is_after x) || eqb (due 0 (take t code)) 1)
  pub targets : So (targets_free code x)

well_placed_lem : (code : List Instruction) (t : ℕ) (x : Instruction) → So (well_placed code t x) → WellPlaced code t x
unfolding well_placed
well_placed_lem code t x h =
    let a = not (is_recv x) || has_clauses (clause_count x) (drop (t + 1) code) in
    let b = not (is_clause x) || ltb 1 (due 0 (take t code)) in
    let d = not (is_after x) || eqb (due 0 (take t code)) 1 in
    let w = parts (a && (b && d)) (targets_free code x) h in
    let v = parts a (b && d) w.0 in
    let u = parts b d v.1 in
    record { recv = v.0; clause = u.0; after = u.1; targets = w.1 }

module _ (c : ℕ) (code : List Instruction) (h : So (code_sound c code)) where
  pub code_short : length code ≤ 32
  unfolding code_sound
  code_short =
      let f : ℕ → Instruction → Bool = λ t x. in_range c (length code) x && well_placed code t x in
      let w = parts (leb 1 (length code) && leb (length code) 32) (all_from f 0 code) h in
      leb-true (length code) 32 (parts (leb 1 (length code)) (leb (length code) 32) w.0).1

  op_sound : (t : ℕ) → t < length code → So (in_range c (length code) (get_or code t no_instruction)) × WellPlaced code t (get_or code t no_instruction)
  unfolding code_sound
  op_sound t g =
      let f : ℕ → Instruction → Bool = λ t x. in_range c (length code) x && well_placed code t x in
      let e : 0 + t ≡ t = omega arith in
      let x = get_or code t no_instruction in
      let w = parts (in_range c (length code) x) (well_placed code t x) (rw e at
      (all_from_at f 0 code t no_instruction (parts (leb 1 (length code) && leb (length code) 32) (all_from f 0 code) h).1 g)) in
      (w.0, well_placed_lem code t x w.1)

  -- where no part of a recv may stand, none does
  none_due_off : (t : ℕ) → due 0 (take t code) ≡ 0 → So (not (on_part code t))
  none_due_off t d = go (leb (suc t) (length code)) refl
    where
      x : Instruction
      x = get_or code t no_instruction

      inside : WellPlaced code t x → (a b : Bool) → is_clause x ≡ a → is_after x ≡ b → So (not (a || b))
      inside w false false e f = refl
      inside w true b e f = absurd (false≢true (rw (e, d) at w.clause))
      inside w false true e f = absurd (false≢true (rw (f, d) at w.after))

      go : (y : Bool) → leb (suc t) (length code) ≡ y → So (not (on_part code t))
      go true f = inside (op_sound t (leb-true (suc t) (length code) f)).1 (is_clause x) (is_after x) refl refl
      go false f = rw (get_or-eq_default code no_instruction {n = t} (omega (arith, leb-false (suc t) (length code) f)))

  -- so none stands behind an op that is neither recv nor a clause
  pub next_off : (t : ℕ) → t < length code → is_recv (get_or code t no_instruction) ≡ false → is_clause (get_or code t no_instruction) ≡ false → So (not (on_part code (suc t)))
  next_off t g a b = none_due_off (suc t) (rw (take-suc code t no_instruction g, due_behind 0 (take t code) (get_or code t no_instruction), a, b))

-- ---- operands of an op of a sound behaviour

-- op o stands at place k of a code that passes the plan's rules
module _ (c : ℕ) (ops : List Op) (checked : So (code_sound c (map instruction ops))) (k : ℕ) (inside : k < length ops) (o : Op) (is : get_or ops k no_op ≡ o) where
  abbrev code : List Instruction
  code = map instruction ops

  pub op_at_lem : get_or code k no_instruction ≡ instruction o
  op_at_lem = map_at instruction ops k no_op no_instruction inside ∙ ap instruction is

  pub facts : So (in_range c (length code) (instruction o)) × WellPlaced code k (instruction o)
  facts = rw op_at_lem at (op_sound c code checked k (rw (length-map ops instruction) inside))

  -- operand j of an op with a known number is in range
  pub in_range_lem : (n j : ℕ) → o.number ≡ n → j < length (kinds_of n) → So (operand_in_range c (length code) (get_or (kinds_of n) j NoOperand) (operand o (get_or (kinds_of n) j NoOperand)))
  unfolding in_range instruction
  in_range_lem n j e h =
      let w : So (all_two (operand_in_range c (length code)) (kinds_of o.number) (map (operand o) (kinds_of o.number))) = (parts (ltb o.number op_count) _ facts.0).1 in
      all_two_at (operand_in_range c (length code)) (operand o) NoOperand (kinds_of n)
      (subst (λ (x : ℕ). So (all_two (operand_in_range c (length code)) (kinds_of x) (map (operand o) (kinds_of x)))) e w) j h

  -- and where it is a target, it is on no part of a recv
  target_off : (n j : ℕ) → o.number ≡ n → j < length (kinds_of n) → So (target_free code (get_or (kinds_of n) j NoOperand) (operand o (get_or (kinds_of n) j NoOperand)))
  unfolding targets_free instruction
  target_off n j e h =
      let w : So (all_two (target_free code) (kinds_of o.number) (map (operand o) (kinds_of o.number))) = facts.1.targets in
      all_two_at (target_free code) (operand o) NoOperand (kinds_of n) (subst (λ (x : ℕ). So (all_two (target_free code) (kinds_of x) (map (operand o) (kinds_of x)))) e w) j h

  abbrev pub Target : Type 0
  Target = So (leb o.target (length code)) × So (not (on_part code o.target))

  pub target_at : (n j : ℕ) → o.number ≡ n → j < length (kinds_of n) → get_or (kinds_of n) j NoOperand ≡ PlaceT → Target
  unfolding operand operand_in_range
  target_at n j e h p = (rw p at (in_range_lem n j e h), rw p at (target_off n j e h))

-- the code of a behaviour that the node has passes the plan's rules
pub code_passes : (codes : List (List Instruction)) (b : ℕ) (ops : List Op) → So (leb 1 b && leb b (length codes)) → code_of codes b ≡ map instruction ops →
    So (all_of (code_sound (length codes)) codes) → So (code_sound (length codes) (map instruction ops))
code_passes codes b ops known same sounds =
    let w = parts (leb 1 b) (leb b (length codes)) known in
    let x = leb-true 1 b w.0 in
    let y = leb-true b (length codes) w.1 in
    rw same at (all_of_at (code_sound (length codes)) [] codes sounds (b - 1) (omega arith))

-- the code of a behaviour that the node has is of at most 32 ops
pub code_size : (codes : List (List Instruction)) (b : ℕ) (ops : List Op) → So (leb 1 b && leb b (length codes)) → code_of codes b ≡ map instruction ops →
    So (all_of (code_sound (length codes)) codes) → length ops ≤ 32
unfolding code_sound
code_size codes b ops known same sounds =
    let whole = map instruction ops in
    let f : ℕ → Instruction → Bool = λ t x. in_range (length codes) (length whole) x && well_placed whole t x in
    let h = code_passes codes b ops known same sounds in
    let v = parts (leb 1 (length whole) && leb (length whole) 32) (all_from f 0 whole) h in
    rw (length-map ops instruction) at (leb-true (length whole) 32 (parts (leb 1 (length whole)) (leb (length whole) 32) v.0).1)

-- a recv has at most 8 clauses, and they stand behind it
pub recv_clauses : (c : ℕ) (ops : List Op) → So (code_sound c (map instruction ops)) → (t : ℕ) → t < length ops → (get_or ops t no_op).number ≡ recv_op →
    ((get_or ops t no_op).small ≤ 8) × (t + 1 + (get_or ops t no_op).small ≤ length ops)
unfolding has_clauses instruction kinds_of operand operand_in_range
recv_clauses c ops checked t inside e =
    let o = get_or ops t no_op in
    let whole = map instruction ops in
    let r : So (leb 1 o.small && leb o.small 8) = in_range_lem c ops checked t inside o refl recv_op 0 e (omega arith) in
    let w : So (not (is_recv (instruction o)) || has_clauses (clause_count (instruction o)) (drop (t + 1) whole)) = (facts c ops checked t inside o refl).1.recv in
    let u : So (has_clauses o.small (drop (t + 1) whole)) =
    subst (λ (k : ℕ). So (not (eqb k recv_op) || has_clauses (get_or (map (operand o) (kinds_of k)) 0 (numeric 0)).number (drop (t + 1) whole))) e w in
    let v = leb-true o.small (length (drop (t + 1) whole)) (parts (leb o.small (length (drop (t + 1) whole))) (all_of is_clause (take o.small (drop (t + 1) whole))) u).0 in
    let l : length (drop (t + 1) whole) ≡ length ops - (t + 1) = simp (length-drop, length-map) in
    (leb-true o.small 8 (parts (leb 1 o.small) (leb o.small 8) r).1, omega arith)

-- ---- a process that begins

-- it stands at place 0, which no part of a recv is on: none may stand there
module _ (codes : List (List Instruction)) (sounds : So (all_of (code_sound (length codes)) codes)) (i : ℕ) (b : BehaviourNumber) (v : Value) where
  fresh_alive : So (leb 1 b.0 && leb b.0 (length codes)) → So (value_sound v) → Alive codes i (fresh b v) []
  unfolding fits_int
  fresh_alive known h =
      let w = parts (leb 1 b.0) (leb b.0 (length codes)) known in
      let x = leb-true 1 b.0 w.0 in
      let y = leb-true b.0 (length codes) w.1 in
      let sound = all_of_at (code_sound (length codes)) [] codes sounds (b.0 - 1) (omega arith) in
      record {
        stage = refl;
        placed = record { known = known; within = le-leb 0 (length (code_of codes b.0)) (omega arith); off = none_due_off (length codes) (code_of codes b.0) sound 0 refl };
        valued = record { v0 = h; v1 = refl; v2 = refl; v3 = refl };
        apart = record { links = none_apart i; watches = none_apart i; watchers = none_apart i };
        mailed = empty_mailed;
      }

  pub fresh_sound : So (leb 1 b.0 && leb b.0 (length codes)) → So (value_sound v) → So (standing_sound codes i (standing (fresh b v) []))
  fresh_sound known h = alive_sound codes i (fresh b v) [] (fresh_alive known h)
