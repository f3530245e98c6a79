-- `operands` reads each operand of an op by its kind. The invariant: what is read of the op, with the kinds and the fields that are left,
-- gives the answer. Assumes nothing.
use mathlib.Core.Path.{refl, ap}
use Prim.Native.Char.{code}
use native.Mathlib.Omega.{arith}
use Rattle.text.proofs.Parts.{place_after, place_inside}
use Rattle.plan_line.specs.Lines.{op}
use Rattle.plan_line.specs.Ops.{no_code}
use Rattle.plan_line.proofs.Fields.{behind_next, behind_none, end_found}
use Rattle.plan_line.proofs.Ops.{stands_first, stands_more, stands_range, stands_malformed, operand_missing, operand_surplus, operands_range, operands_end}
use Rattle.plan_line.proofs.operands.Goals as goal
use Rattle.plan_line.proofs.operands.Goals.{in-Ok, in-Err-OutOfRange}

pub loop-i-init : goal.loop-i-init
loop-i-init c = (c.requires.0, stands_first _ _ _ _ c.requires.1 (rw c.blank.ensures))

pub returns-then-rest-e : goal.returns-then-rest-e
returns-then-rest-e c =
    let turn = c.loop-i.invariant in
    ap op (operand_missing _ _ _ c.loop-i.i turn.1 {x = no_code} (omega (arith, c.operand_count-i-end.ensures)) (behind_none _ turn.0 c.if-rest-e.true) refl)

pub slice_bounds-with_operand-count : goal.slice_bounds-with_operand-count
slice_bounds-with_operand-count c = place_after (code ",") _ (omega arith) c.find-e.ensures

pub slice_bounds-with_operand-start : goal.slice_bounds-with_operand-start
slice_bounds-with_operand-start c = place_after (code ",") _ (omega arith) c.find-e.ensures

pub slice_bounds-with_operand-end : goal.slice_bounds-with_operand-end
slice_bounds-with_operand-end c = place_inside (code ",") _ (omega arith) c.find-e.ensures

pub returns-in-Err-Malformed : goal.returns-in-Err-Malformed
returns-in-Err-Malformed c =
    let turn = c.loop-i.invariant in
    let next = behind_next _ turn.0 c.if-rest-e.false c.find-e.ensures in
    stands_malformed _ _ _ c.loop-i.i turn.1 (omega (arith, c.operand_count-i-end.ensures)) next c.operand_kind.ensures (rw c.in-Err-Malformed.field-0-is at c.in-Err-Malformed.ensures)

pub loop-i-preserved : goal.loop-i-preserved
loop-i-preserved c =
    let turn = c.loop-i.invariant in
    let next = behind_next _ turn.0 c.if-rest-e.false c.find-e.ensures in
    elim c.match-with_operand.branch [
      | in-Ok w ↦ (
        end_found _ (omega arith) c.find-e.ensures,
        rw (w.op-is, w.out_of_range-is) (stands_more _ _ _ c.loop-i.i turn.1 (omega (arith, c.operand_count-i-end.ensures)) next c.operand_kind.ensures w.in-Ok.ensures),
      )
      | in-Err-OutOfRange w ↦ (
        end_found _ (omega arith) c.find-e.ensures,
        rw (w.op-is, w.out_of_range-is)
            (stands_range _ _ _ c.loop-i.i turn.1 (omega (arith, c.operand_count-i-end.ensures)) next c.operand_kind.ensures (rw w.in-Err-OutOfRange.field-0-is at w.in-Err-OutOfRange.ensures)),
      )
    ]

pub returns-then-e-rest : goal.returns-then-e-rest
returns-then-e-rest c =
    let turn = c.loop-i.invariant in
    ap op (operand_surplus _ _ _ c.loop-i.i turn.1 {x = no_code} (omega (arith, c.operand_count-i-end.ensures)) (behind_next _ turn.0 c.if-e-rest.true refl) refl)

pub returns-then-out_of_range : goal.returns-then-out_of_range
returns-then-out_of_range c =
    let turn = c.loop-i.invariant in
    operands_range _ _ _ c.loop-i.i turn.1 (omega (arith, c.operand_count-i-end.ensures)) (behind_none _ turn.0 c.if-e-rest.false) c.if-out_of_range.true

pub returns : goal.returns
returns c =
    let turn = c.loop-i.invariant in
    operands_end _ _ _ c.loop-i.i turn.1 (omega (arith, c.operand_count-i-end.ensures)) (behind_none _ turn.0 c.if-e-rest.false) c.if-out_of_range.false
