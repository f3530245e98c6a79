-- The lines of a plan, one by one (document 01, "Plan, steps and listing text" and the plan writer's numbers).
--   behind_key key x f line  what f reads behind the key of a line; x where the key is wrong
--   header_told              what is told of the line `plan=1`: 11, or 0
--   count_told key low high  what is told of a line with a key and a number, low to high
--   op_told c n              what is told of a line `op=` of a code with n ops, in a plan with c behaviours
--   Start                    a start as it is read: the refusal, 11 to 13, or 0, and its numbers
--   start_of c fields        a start, from its process and behaviour
--   risen last s            13: a start's process has to be above the last
--   start_told c last        what is told of a line `start=` behind a start of process `last`
--   answered k a            a result beside the refusal of its line
--   header_line count_line op_line start_line   the refusal of such a line, or its result
use Rattle.std.specs.Prelude.{cond, List, [], ℕ, eqb, ltb, length, get_or, drop}
use Rattle.node.specs.declared.BehaviourNumber.{BehaviourNumber}
use Rattle.node.specs.declared.Op.{Op}
use Rattle.node.specs.declared.ProcessNumber.{ProcessNumber}
use Rattle.node.specs.Texts.{bytes}
use Rattle.rules.specs.Answers.{Answer, done, need}
use Rattle.text.specs.Numbers.{malformed, number_of, Ranged, no_number, ranged_of}
use Rattle.text.specs.Parts.{fields_of, equal, starts_with}
use Rattle.plan_line.specs.Ops.{Coded, worse, no_code, coded_of}

-- "13 start numbers not rising"
abbrev pub not_rising : ℕ
not_rising = 13

abbrev pub header : List ℕ
header = bytes "plan=1"

abbrev pub behaviours_key : List ℕ
behaviours_key = bytes "behaviours="

abbrev pub code_key : List ℕ
code_key = bytes "code="

abbrev pub op_key : List ℕ
op_key = bytes "op="

abbrev pub starts_key : List ℕ
starts_key = bytes "starts="

abbrev pub start_key : List ℕ
start_key = bytes "start="

abbrev pub behind_key : {A : Type 0} → List ℕ → A → (List ℕ → A) → List ℕ → A
behind_key key wrong f line = cond (starts_with key line) (f (drop (length key) line)) wrong

-- ---- what is told of a line: a record with its refusal, 0 where there is none

-- "A first line other than `plan=1` is 11"
unfoldable pub header_told : List ℕ → ℕ
header_told line = cond (equal line header) 0 malformed

-- "11 wrong key"
unfoldable pub count_told : List ℕ → ℕ → ℕ → List ℕ → Ranged
count_told key low high = behind_key key (no_number malformed) (λ l. ranged_of (number_of l) low high)

unfoldable pub op_told : ℕ → ℕ → List ℕ → Coded
op_told c n = behind_key op_key no_code (λ l. coded_of c n (fields_of l))

pub record Start : Type 0 where
  pub refusal : ℕ
  pub process : ProcessNumber
  pub behaviour : BehaviourNumber

abbrev pub pair_of : Ranged → Ranged → Start
pair_of i b = record { refusal = worse i.refusal b.refusal; process = record { 0 = i.number }; behaviour = record { 0 = b.number } }

abbrev pub no_start : ℕ → Start
no_start k = record { refusal = k; process = record { 0 = 0 }; behaviour = record { 0 = 0 } }

-- "`start=process,behaviour`, the behaviour up to the plan's count"
unfoldable pub start_of : ℕ → List (List ℕ) → Start
start_of c fields =
    cond (eqb (length fields) 2)
    (pair_of (ranged_of (number_of (get_or fields 0 [])) 1 16) (ranged_of (number_of (get_or fields 1 [])) 1 c))
    (no_start malformed)

-- "on a line 11, 12, 13 in that order"
unfoldable pub risen : ProcessNumber → Start → Start
risen last s = cond (eqb s.refusal 0) (cond (ltb last.0 s.process.0) s (no_start not_rising)) s

unfoldable pub start_told : ℕ → ProcessNumber → List ℕ → Start
start_told c last = behind_key start_key (no_start malformed) (λ l. risen last (start_of c (fields_of l)))

-- ---- the refusal of a line, or its result

abbrev pub answered : {A : Type 0} → ℕ → A → Answer A
answered k a = need (eqb k 0) k (done a)

unfoldable pub header_line : List ℕ → Answer ℕ
header_line line = answered (header_told line) 1

abbrev pub number : Ranged → Answer ℕ
number x = answered x.refusal x.number

unfoldable pub count_line : List ℕ → ℕ → ℕ → List ℕ → Answer ℕ
count_line key low high line = number (count_told key low high line)

abbrev pub op : Coded → Answer Op
op x = answered x.refusal x.op

unfoldable pub op_line : ℕ → ℕ → List ℕ → Answer Op
op_line c n line = op (op_told c n line)

abbrev pub start : Start → Answer Start
start s = answered s.refusal s

unfoldable pub start_line : ℕ → ProcessNumber → List ℕ → Answer Start
start_line c last line = start (start_told c last line)
