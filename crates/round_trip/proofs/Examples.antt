-- Document 01's sample plan, and lines of each form, written; each is computed. Assumes nothing.
--   sample_back   the sample plan is written back to its bytes
--   ops_written   an op of each form, and each kind of a clause
use mathlib.Core.List.{List, [], ◌∷◌, map}
use mathlib.Core.Path.{◌≡◌, refl, ap, ◌∙◌}
use Prim.Native.Nat.{ℕ}
use lib.IntN.{pos, negsuc}
use Rattle.node.specs.declared.Op.{Op}
use Rattle.node.specs.declared.Value.TheVariants.{Int, Atom}
use Rattle.node.specs.Ops.{after_op, clause_op, kinds_of, recv_op}
use Rattle.node.specs.Starts.{node_starts}
use Rattle.node.specs.Texts.{bytes}
use Rattle.node.specs.Values.{any_kind, atom_kind, down_kind, exact_kind, int_kind, int_zero, note_kind, pid_kind, pid}
use Rattle.rules.specs.Behaviours.{instruction, operand}
use Rattle.behaviours.specs.Codes.{code_in, codes_in}
use Rattle.text.specs.Values.{number_text, value_text}
use Rattle.text.specs.Writing.{digits, digits_in, each, int_text}
use Rattle.plan.specs.Plans.{Loaded, load_of, node_of}
use Rattle.plan.proofs.Examples.{op_with, sample, sample_plan, start_with}
use Rattle.plan_writer.specs.Texts.{code_rows, codes_rows, kind_text, op_row, operand_text, operands_text, plan_rows, plan_text, start_row}
use Rattle.round_trip.specs.Guarantees.{codes_held, starts_held}

abbrev sample_text : List ℕ
sample_text = bytes "plan=1\nbehaviours=2\ncode=3\nop=set,0,p2\nop=set,1,i12\nop=send,0,1\ncode=2\nop=recv,1\nop=clause,int,0,1,2\nstarts=2\nstart=1,1\nstart=2,2\n"

abbrev again : Loaded → List ℕ
again r = plan_text (codes_held r.node) (starts_held r.node)

started : again (record { number = 0; line = 0; node = node_of sample_plan }) ≡ sample_text
unfolding plan_text plan_rows codes_rows code_rows op_row start_row operands_text operand_text kind_text each digits digits_in value_text number_text int_text codes_in code_in instruction
    operand kinds_of node_starts node_of sample_plan op_with start_with
started = refl

sample_back : again (load_of sample_text) ≡ sample_text
sample_back = ap again sample ∙ started

-- an op of each form, each kind of a clause, and values at their limits
ops_written : map (λ (o : Op). op_row (instruction o)) (
    op_with 0 3 0 0 0 (Int (negsuc 2147483647))
    ∷ op_with 0 0 0 0 0 (Int (pos 2147483647))
    ∷ op_with 1 0 3 9 9 (Atom 9)  -- what is no operand is not written
    ∷ op_with 8 9 9 9 1 (Atom 9)
    ∷ record { number = 9; r = 1; s = 9; target = 9; small = 9; value = int_zero; process = record { 0 = 16 }; behaviour = record { 0 = 8 } }
    ∷ op_with recv_op 0 0 0 8 int_zero
    ∷ op_with clause_op 0 1 32 any_kind (Atom 9)
    ∷ op_with clause_op 0 1 2 int_kind int_zero
    ∷ op_with clause_op 0 1 2 atom_kind int_zero
    ∷ op_with clause_op 0 1 2 pid_kind int_zero
    ∷ op_with clause_op 0 1 2 note_kind int_zero
    ∷ op_with clause_op 0 1 2 down_kind int_zero
    ∷ op_with clause_op 0 1 2 exact_kind (Atom 255)
    ∷ op_with clause_op 0 1 2 exact_kind (Int (negsuc 0))
    ∷ op_with after_op 0 0 10 0 int_zero
    ∷ op_with 13 2 0 7 0 (pid 16)
    ∷ op_with 14 1 0 15 9 (Atom 9)
    ∷ op_with 15 3 9 9 9 (Atom 9)
    ∷ [])
    ≡ bytes "op=set,3,i-2147483648"
    ∷ bytes "op=set,0,i2147483647"
    ∷ bytes "op=copy,0,3"
    ∷ bytes "op=trap,1"
    ∷ bytes "op=spawn,1,8,16"
    ∷ bytes "op=recv,8"
    ∷ bytes "op=clause,any,0,1,32"
    ∷ bytes "op=clause,int,0,1,2"
    ∷ bytes "op=clause,atom,0,1,2"
    ∷ bytes "op=clause,pid,0,1,2"
    ∷ bytes "op=clause,note,0,1,2"
    ∷ bytes "op=clause,down,0,1,2"
    ∷ bytes "op=clause,a255,0,1,2"
    ∷ bytes "op=clause,i-1,0,1,2"
    ∷ bytes "op=after,10"
    ∷ bytes "op=same,2,p16,7"
    ∷ bytes "op=less,1,0,15"
    ∷ bytes "op=stop,3"
    ∷ []
unfolding op_row operands_text operand_text kind_text digits digits_in value_text number_text int_text instruction operand kinds_of op_with
ops_written = refl
