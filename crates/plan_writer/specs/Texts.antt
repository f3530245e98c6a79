-- Plan text as it is written (document 01, "Plan, steps and listing text"; document 02, M-103): the one text of behaviours and starts.
-- A row is a line without the byte 10 that ends it.
--   kind_text x             a clause's kind: its word, or one exact value
--   operand_text kind x     an operand of a kind
--   operands_text kinds xs  the operands of an op, a comma before each
--   operands_of x           those of an instruction
--   numbered key n          a row with a key and a number
--   op_row x                the row `op=` of an instruction
--   code_rows code          the row `code=` of a behaviour, and its ops;  codes_rows codes  those of all behaviours
--   start_row s             the row `start=` of a start
--   plan_rows codes starts  the rows of a plan
--   ended row               a row with the byte that ends it
--   plan_text codes starts  the text of a plan
--   longest_plan            what the text of a plan has at most
use Rattle.std.specs.Prelude.{cond, List, [], ◌∷◌, ◌++◌, map, ℕ, ◌-◌, eqb, length, get_or}
use Rattle.node.specs.declared.OperandKind.{OperandKind}
use Rattle.node.specs.declared.OperandKind.TheVariants.{NoOperand, RegisterR, RegisterS, ValueV, PlaceT, BehaviourB, ProcessQ, FlagF, CountN, KindK}
use Rattle.node.specs.declared.Start.{Start}
use Rattle.node.specs.Ops.{kinds_of, op_words}
use Rattle.node.specs.Texts.{bytes}
use Rattle.node.specs.Values.{any_kind, exact_kind}
use Rattle.rules.specs.Behaviours.{Operand, Instruction}
use Rattle.text.specs.Values.{value_text}
use Rattle.text.specs.Writing.{digits, each, line_end}
use Rattle.plan_line.specs.Lines.{header, behaviours_key, code_key, op_key, starts_key, start_key}
use Rattle.plan_line.specs.Ops.{clause_words}

-- "k is any (notes too), int, atom, pid, note or one exact V", and down
unfoldable pub kind_text : Operand → List ℕ
kind_text x = cond (eqb x.number exact_kind) (value_text x.value) (get_or clause_words (x.number - any_kind) [])

unfoldable pub operand_text : OperandKind → Operand → List ℕ
operand_text NoOperand x = digits x.number
operand_text RegisterR x = digits x.number
operand_text RegisterS x = digits x.number
operand_text ValueV x = value_text x.value
operand_text PlaceT x = digits x.number
operand_text BehaviourB x = digits x.number
operand_text ProcessQ x = digits x.number
operand_text FlagF x = digits x.number
operand_text CountN x = digits x.number
operand_text KindK x = kind_text x

unfoldable pub operands_text : List OperandKind → List Operand → List ℕ
operands_text [] xs = []
operands_text (k ∷ ks) [] = []
operands_text (k ∷ ks) (x ∷ xs) = bytes "," ++ operand_text k x ++ operands_text ks xs

abbrev pub operands_of : Instruction → List ℕ
operands_of x = operands_text (kinds_of x.number) x.operands

abbrev pub numbered : List ℕ → ℕ → List ℕ
numbered key n = key ++ digits n

unfoldable pub op_row : Instruction → List ℕ
op_row x = op_key ++ get_or op_words x.number [] ++ operands_of x

unfoldable pub code_rows : List Instruction → List (List ℕ)
code_rows code = numbered code_key (length code) ∷ map op_row code

unfoldable pub codes_rows : List (List Instruction) → List (List ℕ)
codes_rows [] = []
codes_rows (code ∷ codes) = code_rows code ++ codes_rows codes

unfoldable pub start_row : Start → List ℕ
start_row s = start_key ++ digits s.process.0 ++ bytes "," ++ digits s.behaviour.0

-- "`plan=1`, `behaviours=`, for each `code=` and its `op=` lines, `starts=`, the `start=` lines"
unfoldable pub plan_rows : List (List Instruction) → List Start → List (List ℕ)
plan_rows codes starts =
    header ∷ numbered behaviours_key (length codes) ∷ codes_rows codes ++ (numbered starts_key (length starts) ∷ map start_row starts)

abbrev pub ended : List ℕ → List ℕ
ended row = row ++ line_end

-- "each ended by byte 10"
unfoldable pub plan_text : List (List Instruction) → List Start → List ℕ
plan_text codes starts = each ended (plan_rows codes starts)

-- no text has more bytes: `plan=1` has 7 and `behaviours=` 13; each of at most 8 behaviours has at most 8 for `code=` and 30 for each of at
-- most 32 ops, as in `op=clause,i-2147483648,3,3,32`; `starts=` has at most 10 and each of at most 16 starts 11.
-- 7 + 13 + 8 * (8 + 32 * 30) + 10 + 16 * 11
abbrev pub longest_plan : ℕ
longest_plan = 7950
