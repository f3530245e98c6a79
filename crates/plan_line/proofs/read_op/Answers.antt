-- `read_op` gives the op of a word and its operands. Assumes nothing.
use mathlib.Core.Path.{refl, sym, ap, ◌∙◌}
use Prim.Native.Char.{code}
use Prim.Native.Nat.{◌<◌}
use native.Mathlib.Omega.{arith}
use lib.ListN.{length, take}
use lib.Seq.{length-take-le}
use Rattle.std.proofs.Common.{rules}
use Rattle.node.specs.Ops.{op_words}
use Rattle.text.proofs.Parts.{place_inside}
use Rattle.text.specs.Parts.{index_of}
use Rattle.words.specs.Words.{packed}
use Rattle.plan_line.specs.Lines.{op}
use Rattle.plan_line.specs.Ops.{no_code}
use Rattle.plan_line.proofs.Fields.{end_found}
use Rattle.plan_line.proofs.Ops.{found_at, op_right, op_word}
use Rattle.plan_line.proofs.read_op.Goals as goal

pub slice_bounds-place_among-end-2 : goal.slice_bounds-place_among-end-2
slice_bounds-place_among-end-2 c = sym (length-take-le _ _ (place_inside (code ",") _ (omega arith) c.find-e.ensures))

pub overflow_cast-k : goal.overflow_cast-k
unfolding packed
overflow_cast-k c =
    let at = found_at (index_of (take c.find-e.result c.args.rest.now) op_words) (length op_words) (c.in-Some.ensures op_words refl refl) in
    let small : c.in-Some.k < 256 = omega arith in
    search rules

pub operands-requires : goal.operands-requires
unfolding packed
operands-requires c =
    let at = found_at (index_of (take c.find-e.result c.args.rest.now) op_words) (length op_words) (c.in-Some.ensures op_words refl refl) in
    (end_found _ (omega arith) c.find-e.ensures, omega arith)

pub returns-in-Some : goal.returns-in-Some
unfolding packed
returns-in-Some c = c.operands.ensures ∙ ap op (op_right c.args.count c.args.len c.args.rest.now c.find-e.ensures (c.in-Some.ensures op_words refl refl))

pub returns-in-None : goal.returns-in-None
unfolding packed
returns-in-None c = ap op (op_word c.args.count c.args.len c.args.rest.now c.find-e.ensures {x = no_code} (c.in-None.ensures op_words refl refl) refl)
