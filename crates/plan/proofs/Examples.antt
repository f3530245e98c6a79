-- Document 01's sample plan and refusals of plan text; each is computed. Assumes nothing.
use mathlib.Core.List.{List, [], ◌∷◌, map}
use mathlib.Core.Path.{◌≡◌, refl}
use Prim.Native.Nat.{ℕ}
use lib.IntN.{pos}
use Rattle.node.specs.declared.Op.{Op}
use Rattle.node.specs.declared.Value.{Value}
use Rattle.node.specs.declared.Value.TheVariants.{Int}
use Rattle.node.specs.Ops.{clause_op, kinds_of, recv_op}
use Rattle.node.specs.Values.{int_kind, int_zero, pid}
use Rattle.node.specs.Texts.{bytes}
use Rattle.rules.specs.Behaviours.{instruction, operand, well_placed, has_clauses, targets_free}
use Rattle.rules.specs.Nodes.{code, behaviours_of}
use Rattle.text.specs.Numbers.{is_digit, unsigned_form, negative, unsigned, number_form, decimal, number_value, number_of, ranged_of}
use Rattle.text.specs.Parts.{split, in_front, line_then, last_apart, lines_of, fields_of, equal, starts_with, index_of}
use Rattle.text.specs.Values.{plus_of, minus_of, int_of, by_letter, value_of}
use Rattle.plan_line.specs.Ops.{clause_kind, operand_of, with_operand, operands_of, op_of, coded_of}
use Rattle.plan_line.specs.Lines.{Start, header_told, header_line, count_told, count_line, op_told, op_line, start_of, risen, start_told, start_line}
use Rattle.placement.specs.Misplaced.{misplaced_in, misplaced_from}
use Rattle.plan.specs.Plans.{Plan, code_lines, start_lines, plan_lines, misplaced, node_of, refused_load, checked, load_of}
use Rattle.plan_line.specs.Ops.{worse}
use Rattle.plan.specs.Reading.{on_line, times, end_of}

unfoldable pub op_with : ℕ → ℕ → ℕ → ℕ → ℕ → Value → Op
op_with k r s t small v = record { number = k; r = r; s = s; target = t; small = small; value = v; process = record { 0 = 0 }; behaviour = record { 0 = 0 } }

unfoldable pub start_with : ℕ → ℕ → Start
start_with i b = record { refusal = 0; process = record { 0 = i }; behaviour = record { 0 = b } }

unfoldable pub sample_plan : Plan
sample_plan = record {
  codes =
      (op_with 0 0 0 0 0 (pid 2)  -- set,0,p2
      ∷ op_with 0 1 0 0 0 (Int (pos 12))  -- set,1,i12
      ∷ op_with 4 0 1 0 0 int_zero  -- send,0,1
      ∷ [])
      ∷ (op_with recv_op 0 0 0 1 int_zero  -- recv,1
      ∷ op_with clause_op 0 1 2 int_kind int_zero  -- clause,int,0,1,2
      ∷ [])
      ∷ [];
  starts = start_with 1 1 ∷ start_with 2 2 ∷ [];
}

pub sample :
    load_of (bytes "plan=1\nbehaviours=2\ncode=3\nop=set,0,p2\nop=set,1,i12\nop=send,0,1\ncode=2\nop=recv,1\nop=clause,int,0,1,2\nstarts=2\nstart=1,1\nstart=2,2\n")
    ≡ record { number = 0; line = 0; node = node_of sample_plan }
unfolding op_with start_with sample_plan load_of refused_load checked plan_lines code_lines start_lines header_told header_line count_told count_line op_told op_line start_told start_line
    risen start_of behaviours_of code node_of misplaced misplaced_from misplaced_in on_line times end_of worse coded_of op_of operands_of with_operand operand_of clause_kind instruction
    operand well_placed has_clauses targets_free kinds_of index_of lines_of last_apart line_then split in_front fields_of equal starts_with number_of number_form unsigned_form unsigned
    negative is_digit number_value decimal ranged_of value_of by_letter int_of plus_of minus_of
sample = refl

-- the number and the line of each
tells : List ℕ → List ℕ
tells text = (load_of text).number ∷ (load_of text).line ∷ []

refusals : map tells (
    []  -- the empty text
    ∷ bytes "plan=2\n"
    ∷ bytes "plan=1\n"  -- a missing line
    ∷ bytes "plan=1\nbehaviours=2\ncode=3\nop=set,0,p2\nop=set,1,i12\nop=send,0,1\ncode=2\nop=recv,1\nop=clause,int,0,1,2\nstarts=2\nstart=1,1\nstart=2,2"  -- the sample without its last byte 10
    ∷ bytes "plan=1\nbehaviours=2\ncode=3\nop=set,0,p2\nop=set,1,i12\nop=send,0,1\ncode=2\nop=recv,1\nop=clause,int,0,1,2\nstarts=2\nstart=1,1\nstart=2,2\n\n"  -- the sample with a surplus line
    ∷ bytes "plan=1\nbehaviours=9\n"
    ∷ bytes "plan=1\nbehaviours=1\ncode=1\nop=set,4,x\nstarts=1\nstart=1,1\n"  -- set,4,x: 12 and then 11 on one line
    ∷ bytes "plan=1\nbehaviours=1\ncode=1\nop=trap,-1\nstarts=1\nstart=1,1\n"
    ∷ bytes "plan=1\nbehaviours=1\ncode=1\nop=spawn,0,1,p2\nstarts=1\nstart=1,1\n"
    ∷ bytes "plan=1\nbehaviours=1\ncode=1\nop=jump,2\nstarts=1\nstart=1,1\n"  -- jump,2 of one op
    ∷ bytes "plan=1\nbehaviours=1\ncode=1\nop=jump,1\nstarts=1\nstart=1,1\n"  -- jump,1 of one op
    ∷ bytes "plan=1\nbehaviours=1\ncode=1\nop=stop,0\nstarts=2\nstart=2,1\nstart=2,1\n"  -- starts 2 and 2
    ∷ bytes "plan=1\nbehaviours=1\ncode=1\nop=stop,0\nstarts=2\nstart=2,1\nstart=2,2\n"  -- starts 2 and 2, the behaviour of the second out of range
    ∷ bytes "plan=1\nbehaviours=1\ncode=2\nop=stop,0\nop=clause,any,0,0,0\nstarts=1\nstart=1,1\n"  -- a stray clause
    ∷ bytes "plan=1\nbehaviours=1\ncode=3\nop=stop,0\nop=recv,2\nop=clause,a7,0,0,0\nstarts=1\nstart=1,1\n"  -- a recv without its clauses
    ∷ bytes "plan=1\nbehaviours=1\ncode=3\nop=recv,1\nop=clause,note,0,1,1\nop=clause,any,0,0,0\nstarts=1\nstart=1,1\n"  -- a target on a clause, and a stray clause on a later line
    ∷ bytes "plan=1\nbehaviours=1\ncode=2\nop=clause,any,0,0,0\nop=stop,4\nstarts=1\nstart=1,1\n"  -- a stray clause, and a later line with 12
    ∷ [])
    ≡ (11 ∷ 1 ∷ []) ∷ (11 ∷ 1 ∷ []) ∷ (11 ∷ 2 ∷ []) ∷ (11 ∷ 12 ∷ []) ∷ (11 ∷ 13 ∷ []) ∷ (12 ∷ 2 ∷ []) ∷ (11 ∷ 4 ∷ []) ∷ (12 ∷ 4 ∷ []) ∷ (11 ∷ 4 ∷ []) ∷ (12 ∷ 4 ∷ []) ∷ (0 ∷ 0 ∷ []) ∷ (13 ∷ 7 ∷ []) ∷
    (12 ∷ 7 ∷ []) ∷ (14 ∷ 5 ∷ []) ∷ (14 ∷ 5 ∷ []) ∷ (14 ∷ 5 ∷ []) ∷ (12 ∷ 5 ∷ []) ∷ []
unfolding tells load_of refused_load checked plan_lines code_lines start_lines header_told header_line count_told count_line op_told op_line start_told start_line risen start_of
    behaviours_of code node_of misplaced misplaced_from misplaced_in on_line times end_of worse coded_of op_of operands_of with_operand operand_of clause_kind instruction operand well_placed
    has_clauses targets_free kinds_of index_of lines_of last_apart line_then split in_front fields_of equal starts_with number_of number_form unsigned_form unsigned negative is_digit
    number_value decimal ranged_of value_of by_letter int_of plus_of minus_of
refusals = refl
