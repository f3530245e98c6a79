-- Ops (instructions; document 01, "Run, live"): one table, a row to an op. An op's number is its row's place, the first being 0; all that
-- goes by the number is computed from the table.
--   letter k           document 01's letter for an operand of kind k
--   is_kind j k         kind k is j
--   OpForm form w ks   how an op is written: its word, and what its operands are, in their order
--   op_forms            the table
--   op_count            how many ops there are
--   op_words op_kinds    the words of the ops, and what their operands are
--   operand_counts      how many operands each op has
--   kinds_of n          what the operands of op n are; none where n is no op
--   operand_kind n k    what operand k of op n is
--   kinds_in x          what operands an op of shape x has
--   recv_op clause_op after_op   the places of recv, clause and after in the table
--   is_part n           op n is a clause or an `after`
--   stop_op             the op `stop,0`
use Rattle.std.specs.Prelude.{Bool, ◌||◌, List, [], ◌∷◌, map, ℕ, eqb, length, get_or}
use Prim.Native.Char.{code}
use Prim.Native.String.{String}
use Rattle.node.specs.declared.Op.{Op}
use Rattle.node.specs.declared.OperandKind.{OperandKind}
use Rattle.node.specs.declared.OperandKind.TheVariants.{NoOperand, RegisterR, RegisterS, ValueV, PlaceT, BehaviourB, ProcessQ, FlagF, CountN, KindK}
use Rattle.node.specs.declared.Shape.{Shape}
use Rattle.node.specs.declared.Shape.TheVariants.{Nothing, R, RS, RV, F, RBQ, N, KRST, T, RVT, RST}
use Rattle.node.specs.Texts.{bytes}
use Rattle.node.specs.Values.{int_zero}

abbrev pub letter : OperandKind → ℕ
letter NoOperand = 0
letter RegisterR = code "r"
letter RegisterS = code "s"
letter ValueV = code "V"
letter PlaceT = code "t"
letter BehaviourB = code "b"
letter ProcessQ = code "q"
letter FlagF = code "f"
letter CountN = code "n"
letter KindK = code "k"

abbrev pub is_kind : OperandKind → OperandKind → Bool
is_kind j k = eqb (letter j) (letter k)

pub record OpForm : Type 0 where
  pub word : List ℕ
  pub operands : List OperandKind

abbrev pub form : String → List OperandKind → OpForm
form w ks = record { word = bytes w; operands = ks }

abbrev pub op_forms : List OpForm
op_forms =
    form "set" (RegisterR ∷ ValueV ∷ [])
    ∷ form "copy" (RegisterR ∷ RegisterS ∷ [])
    ∷ form "self" (RegisterR ∷ [])
    ∷ form "add" (RegisterR ∷ RegisterS ∷ [])
    ∷ form "send" (RegisterR ∷ RegisterS ∷ [])
    ∷ form "exit" (RegisterR ∷ RegisterS ∷ [])
    ∷ form "link" (RegisterR ∷ [])
    ∷ form "unlink" (RegisterR ∷ [])
    ∷ form "trap" (FlagF ∷ [])
    ∷ form "spawn" (RegisterR ∷ BehaviourB ∷ ProcessQ ∷ [])
    ∷ form "recv" (CountN ∷ [])
    ∷ form "clause" (KindK ∷ RegisterR ∷ RegisterS ∷ PlaceT ∷ [])
    ∷ form "jump" (PlaceT ∷ [])
    ∷ form "same" (RegisterR ∷ ValueV ∷ PlaceT ∷ [])
    ∷ form "less" (RegisterR ∷ RegisterS ∷ PlaceT ∷ [])
    ∷ form "stop" (RegisterR ∷ [])
    ∷ form "monitor" (RegisterR ∷ [])
    ∷ form "demonitor" (RegisterR ∷ [])
    ∷ form "after" (PlaceT ∷ [])
    ∷ []

abbrev pub op_count : ℕ
op_count = length op_forms

abbrev pub op_words : List (List ℕ)
op_words = map (λ (f : OpForm). f.word) op_forms

abbrev pub op_kinds : List (List OperandKind)
op_kinds = map (λ (f : OpForm). f.operands) op_forms

-- "Operand counts, in the table's order"
abbrev pub operand_counts : List ℕ
operand_counts = map length op_kinds

unfoldable pub kinds_of : ℕ → List OperandKind
kinds_of n = get_or op_kinds n []

unfoldable pub operand_kind : ℕ → ℕ → OperandKind
operand_kind n k = get_or (kinds_of n) k NoOperand

unfoldable pub kinds_in : Shape → List OperandKind
kinds_in Nothing = []
kinds_in R = RegisterR ∷ []
kinds_in RS = RegisterR ∷ RegisterS ∷ []
kinds_in RV = RegisterR ∷ ValueV ∷ []
kinds_in F = FlagF ∷ []
kinds_in RBQ = RegisterR ∷ BehaviourB ∷ ProcessQ ∷ []
kinds_in N = CountN ∷ []
kinds_in KRST = KindK ∷ RegisterR ∷ RegisterS ∷ PlaceT ∷ []
kinds_in T = PlaceT ∷ []
kinds_in RVT = RegisterR ∷ ValueV ∷ PlaceT ∷ []
kinds_in RST = RegisterR ∷ RegisterS ∷ PlaceT ∷ []

-- places in the table
abbrev pub recv_op : ℕ
recv_op = 10

abbrev pub clause_op : ℕ
clause_op = 11

abbrev pub after_op : ℕ
after_op = 18

-- a part of a recv, which no process ever stands at
abbrev pub is_part : ℕ → Bool
is_part n = eqb n clause_op || eqb n after_op

abbrev pub stop_op : Op
stop_op = record { number = 15; r = 0; s = 0; target = 0; small = 0; value = int_zero; process = record { 0 = 0 }; behaviour = record { 0 = 0 } }
