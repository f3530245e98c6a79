-- Lines `op=` (document 01, "Run, live" and "Plan, steps and listing text"). An op is read where the plan has c behaviours and its code
-- n ops.
--   ReadOperand             an operand as it is read: the refusal, 11 or 12, or 0; its number; and its value, where it has one
--   Coded                   an op as it is read: the refusal, 11 or 12, or 0, and the op with the operands that were read
--   worse j k               the number told of two refusals on a line: 11 before 12
--   clause_words             the words of the clause kinds, from `any_kind` on
--   ranged low high l       an operand that is a number, low to high
--   exact x                 an operand that is a value; with it, the clause kind of one exact value
--   clause_kind l            a clause's kind: one of the words, or one exact value
--   operand_of c n kind l    operand l of a kind
--   with_operand o kind x    op o with the operand x of a kind
--   with_joined o kind x     what is read of an op, with one operand more
--   operands_of c n o ks ls  what is read of an op, with the operands ls of the kinds ks
--   FieldEnd s e            a field of s ends at place e: a comma stands there, or s ends
--   behind_field e s         the fields of s behind that one
--   bare k no_code           op number k without operands; what is read of a wrong word or operand count
--   op_of c n k ls           op number k with the operands ls
--   coded_of c n fields      the op of a line, from its word and operands
use Rattle.std.specs.Prelude.{◌&&◌, ◌||◌, cond, List, [], ◌∷◌, ◌≡◌, ℕ, ◌+◌, ◌≤◌, eqb, ltb, length, get_or, drop}
use Prim.Native.Char.{code}
use Rattle.node.specs.declared.Op.{Op}
use Rattle.node.specs.declared.OperandKind.{OperandKind}
use Rattle.node.specs.declared.OperandKind.TheVariants.{NoOperand, RegisterR, RegisterS, ValueV, PlaceT, BehaviourB, ProcessQ, FlagF, CountN, KindK}
use Rattle.node.specs.declared.Value.{Value}
use Rattle.node.specs.Nodes.{no_op}
use Rattle.node.specs.Ops.{is_kind, kinds_of, op_count, operand_counts, op_words}
use Rattle.node.specs.Values.{any_kind, exact_kind, int_zero}
use Rattle.node.specs.Texts.{bytes}
use Rattle.text.specs.Numbers.{malformed, number_of, Ranged, ranged_of}
use Rattle.text.specs.Parts.{place_from, fields_of, index_of}
use Rattle.text.specs.Values.{Parsed, value_of}

pub record ReadOperand : Type 0 where
  pub refusal : ℕ
  pub number : ℕ
  pub value : Value

pub record Coded : Type 0 where
  pub refusal : ℕ
  pub op : Op

-- "on a line 11, 12, 13 in that order"
unfoldable pub worse : ℕ → ℕ → ℕ
worse j k = cond (eqb j 0) k (cond (eqb k malformed) malformed j)

-- "k is any (notes too), int, atom, pid, note or one exact V", and down
abbrev pub clause_words : List (List ℕ)
clause_words = bytes "any" ∷ bytes "int" ∷ bytes "atom" ∷ bytes "pid" ∷ bytes "note" ∷ bytes "down" ∷ []

abbrev pub numeric : Ranged → ReadOperand
numeric x = record { refusal = x.refusal; number = x.number; value = int_zero }

abbrev pub ranged : ℕ → ℕ → List ℕ → ReadOperand
ranged low high l = numeric (ranged_of (number_of l) low high)

abbrev pub exact : Parsed → ReadOperand
exact x = record { refusal = x.refusal; number = exact_kind; value = x.value }

unfoldable pub clause_kind : List ℕ → ReadOperand
clause_kind l =
    cond (ltb (index_of l clause_words) (length clause_words))
    (record { refusal = 0; number = index_of l clause_words + any_kind; value = int_zero })
    (exact (value_of l))

-- "r, s are registers 0 to 3, V a value, t a place 0 to N, b a behaviour number up to the plan's count, q a process number written without p",
-- f 0 or 1, n 1 to 8
unfoldable pub operand_of : ℕ → ℕ → OperandKind → List ℕ → ReadOperand
operand_of c n NoOperand l = ranged 0 0 l
operand_of c n RegisterR l = ranged 0 3 l
operand_of c n RegisterS l = ranged 0 3 l
operand_of c n ValueV l = exact (value_of l)
operand_of c n PlaceT l = ranged 0 n l
operand_of c n BehaviourB l = ranged 1 c l
operand_of c n ProcessQ l = ranged 1 16 l
operand_of c n FlagF l = ranged 0 1 l
operand_of c n CountN l = ranged 1 8 l
operand_of c n KindK l = clause_kind l

-- an op with its small number and its value anew
abbrev pub with_value : Op → ℕ → Value → Op
with_value o small v = record {
  number = o.number;
  r = o.r;
  s = o.s;
  target = o.target;
  small = small;
  value = v;
  process = o.process;
  behaviour = o.behaviour;
}

-- the fields are those that rules' `operand` reads
unfoldable pub with_operand : Op → OperandKind → ReadOperand → Op
with_operand o kind x = record {
  number = o.number;
  r = cond (is_kind RegisterR kind) x.number o.r;
  s = cond (is_kind RegisterS kind) x.number o.s;
  target = cond (is_kind PlaceT kind) x.number o.target;
  small = cond (is_kind FlagF kind || is_kind CountN kind || is_kind KindK kind) x.number o.small;
  value = cond (is_kind ValueV kind || is_kind KindK kind) x.value o.value;
  process = cond (is_kind ProcessQ kind) (record { 0 = x.number }) o.process;
  behaviour = cond (is_kind BehaviourB kind) (record { 0 = x.number }) o.behaviour;
}

abbrev pub with_joined : Coded → OperandKind → ReadOperand → Coded
with_joined o kind x = record { refusal = worse o.refusal x.refusal; op = with_operand o.op kind x }

unfoldable pub operands_of : ℕ → ℕ → Coded → List OperandKind → List (List ℕ) → Coded
operands_of c n o [] ls = o
operands_of c n o (k ∷ ks) [] = o
operands_of c n o (k ∷ ks) (l ∷ ls) = operands_of c n (with_joined o k (operand_of c n k l)) ks ls

pub record FieldEnd (s : List ℕ) (e : ℕ) : Type 0 where
  pub within : e ≤ length s
  pub here : e ≡ place_from (code ",") e s

unfoldable pub behind_field : ℕ → List ℕ → List (List ℕ)
behind_field e s = drop 1 (fields_of (drop e s))

-- op number k without operands
abbrev pub bare : ℕ → Coded
bare k = record {
  refusal = 0;
  op = record { number = k; r = 0; s = 0; target = 0; small = 0; value = int_zero; process = record { 0 = 0 }; behaviour = record { 0 = 0 } };
}

abbrev pub no_code : Coded
no_code = record { refusal = malformed; op = no_op }

-- "11 wrong .. word, operand count"
unfoldable pub op_of : ℕ → ℕ → ℕ → List (List ℕ) → Coded
op_of c n k operands = cond (ltb k op_count && eqb (length operands) (get_or operand_counts k 0)) (operands_of c n (bare k) (kinds_of k) operands) no_code

unfoldable pub coded_of : ℕ → ℕ → List (List ℕ) → Coded
coded_of c n fields = op_of c n (index_of (get_or fields 0 []) op_words) (drop 1 fields)
