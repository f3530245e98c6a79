-- Behaviours and the plan's rules on them (document 01, "The node", "Run, live", and the plan writer's numbers 12 and 14).
--   Instruction         an op as document 01 writes it: its number and the operands that it has
--   instruction o       the instruction that an op record holds; fields that are no operands of the op do not count
--   in_range c n x       12: each operand of x is in range, where the plan has c behaviours and the code n ops
--   well_placed code t x 14: x, at place t of the code, is a recv with its clauses, a clause of a recv, an `after` behind the last of them, or
--                       none of these; its target is on no clause and on no `after`
--   code_sound c code    a behaviour of a plan with c behaviours passes the plan's rules
use Rattle.std.specs.Prelude.{Bool, true, ◌&&◌, ◌||◌, not, cond, List, [], ◌∷◌, map, ℕ, ◌+◌, ◌-◌, leb, ltb, eqb, length, get_or, take, drop}
use Rattle.node.specs.declared.Op.{Op}
use Rattle.node.specs.declared.OperandKind.{OperandKind}
use Rattle.node.specs.declared.OperandKind.TheVariants.{NoOperand, RegisterR, RegisterS, ValueV, PlaceT, BehaviourB, ProcessQ, FlagF, CountN, KindK}
use Rattle.node.specs.declared.Value.{Value}
use Rattle.node.specs.Lists.{all_from, all_of, all_two}
use Rattle.node.specs.Ops.{kinds_of, is_kind, op_count, is_part, recv_op, clause_op, after_op}
use Rattle.node.specs.Values.{int_zero, is_number, value_sound, exact_kind, last_kind}

-- an operand: a number or a value; a clause kind is a number of node's `Values`, with one exact value where it is `exact_kind`
pub record Operand : Type 0 where
  pub number : ℕ
  pub value : Value

pub record Instruction : Type 0 where
  pub number : ℕ
  pub operands : List Operand

abbrev pub numeric : ℕ → Operand
numeric k = record { number = k; value = int_zero }

-- the field of an op that holds its operand of each kind
unfoldable pub operand : Op → OperandKind → Operand
operand o NoOperand = numeric 0
operand o RegisterR = numeric o.r
operand o RegisterS = numeric o.s
operand o ValueV = record { number = 0; value = o.value }
operand o PlaceT = numeric o.target
operand o BehaviourB = numeric o.behaviour.0
operand o ProcessQ = numeric o.process.0
operand o FlagF = numeric o.small
operand o CountN = numeric o.small
operand o KindK = record { number = o.small; value = cond (eqb o.small exact_kind) o.value int_zero }

unfoldable pub instruction : Op → Instruction
instruction o = record { number = o.number; operands = map (operand o) (kinds_of o.number) }

-- "r, s are registers 0 to 3, V a value, t a place 0 to N, b a behaviour number up to the plan's count, q a process number",
-- f 0 or 1, n 1 to 8
unfoldable pub operand_in_range : ℕ → ℕ → OperandKind → Operand → Bool
operand_in_range c n NoOperand x = true
operand_in_range c n RegisterR x = leb x.number 3
operand_in_range c n RegisterS x = leb x.number 3
operand_in_range c n ValueV x = value_sound x.value
operand_in_range c n PlaceT x = leb x.number n
operand_in_range c n BehaviourB x = leb 1 x.number && leb x.number c
operand_in_range c n ProcessQ x = is_number x.number
operand_in_range c n FlagF x = leb x.number 1
operand_in_range c n CountN x = leb 1 x.number && leb x.number 8
operand_in_range c n KindK x = leb x.number last_kind && value_sound x.value

unfoldable pub in_range : ℕ → ℕ → Instruction → Bool
in_range c n x = ltb x.number op_count && all_two (operand_in_range c n) (kinds_of x.number) x.operands

abbrev pub is_recv : Instruction → Bool
is_recv x = eqb x.number recv_op

abbrev pub is_clause : Instruction → Bool
is_clause x = eqb x.number clause_op

abbrev pub is_after : Instruction → Bool
is_after x = eqb x.number after_op

-- recv's n
abbrev pub clause_count : Instruction → ℕ
clause_count x = (get_or x.operands 0 (numeric 0)).number

abbrev pub no_instruction : Instruction
no_instruction = record { number = 0; operands = [] }

-- a place that no process stands at and no target leads to
abbrev pub on_part : List Instruction → ℕ → Bool
on_part code t = is_part (get_or code t no_instruction).number

-- "The next n ops are its clauses"
unfoldable pub has_clauses : ℕ → List Instruction → Bool
has_clauses n rest = leb n (length rest) && all_of is_clause (take n rest)

-- of the parts of the last recv, its clauses and then an `after`, how many may still stand behind the given ops, where k could before them
abbrev pub due_next : ℕ → Instruction → ℕ
due_next k x = cond (is_recv x) (clause_count x + 1) (cond (is_clause x) (k - 1) 0)

abbrev pub due : ℕ → List Instruction → ℕ
due k [] = k
due k (x ∷ xs) = due (due_next k x) xs

-- "target place on a clause"; "a target place on an `after` is 14 as well"
abbrev pub target_free : List Instruction → OperandKind → Operand → Bool
target_free code kind x = not (is_kind PlaceT kind) || not (on_part code x.number)

unfoldable pub targets_free : List Instruction → Instruction → Bool
targets_free code x = all_two (target_free code) (kinds_of x.number) x.operands

-- where d parts of a recv may still stand, op n is a clause only before the last of them, and an `after` only as the last
abbrev pub in_turn : ℕ → ℕ → Bool
in_turn n d = (not (eqb n clause_op) || ltb 1 d) && (not (eqb n after_op) || eqb d 1)

-- "recv without its clauses, stray clause, target place on a clause"; `after` is "allowed only directly behind the last clause of a recv"
unfoldable pub well_placed : List Instruction → ℕ → Instruction → Bool
well_placed code t x =
    (not (is_recv x) || has_clauses (clause_count x) (drop (t + 1) code))
    && in_turn x.number (due 0 (take t code))
    && targets_free code x

-- "A behaviour is a row of N ops"; N is 1 to 32
unfoldable pub code_sound : ℕ → List Instruction → Bool
code_sound c code =
    leb 1 (length code) && leb (length code) 32
    && all_from (λ t x. in_range c (length code) x && well_placed code t x) 0 code
