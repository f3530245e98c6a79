-- `Code::misplaced` walks the ops of a behaviour. The loop keeps how many parts of a recv may stand, and that the ops that are left give the answer.
-- Assumes nothing.
use mathlib.Core.Path.{◌≡◌, refl, ◌∙◌, sym, ap}
use Prim.Native.Nat.{◌+◌, ◌<◌}
use native.Mathlib.Omega.{arith}
use lib.ListN.{length}
use Rattle.node.specs.Nodes.{no_op}
use Rattle.rules.specs.Behaviours.{instruction}
use Rattle.behaviours.proofs.Clauses.{turn_due}
use Rattle.behaviours.proofs.Codes.{code_length}
use Rattle.placement.specs.Misplaced.{line_told}
use Rattle.placement.specs.Read.{code_of}
use Rattle.placement.proofs.Laws.{op_is, in_begin, in_stop, in_more, in_end, told_line}
use Rattle.placement.proofs.Code.misplaced.Goals as goal

pub loop-t-init : goal.loop-t-init
loop-t-init c = record { parts = refl; gives = in_begin (code_of c.args.self) c.args.first }

pub returns-then-not-well_placed : goal.returns-then-not-well_placed
returns-then-not-well_placed c =
    let at = c.args.self in
    let l = c.loop-t in
    let here : l.t < length (code_of at) = rw (code_length at.len at.ops.now at.k) c.loop-t-test.true in
    let line = in_stop (code_of at) c.args.first l.t l.invariant.gives (instruction no_op) here (sym c.well_placed.ensures ∙ c.if-not-well_placed.true) in
    told_line (c.args.first + l.t) (omega (arith, c.requires.least)) ∙ ap line_told line

pub loop-t-preserved : goal.loop-t-preserved
loop-t-preserved c =
    let at = c.args.self in
    let l = c.loop-t in
    let here : l.t < length (code_of at) = rw (code_length at.len at.ops.now at.k) c.loop-t-test.true in
    let x = op_is at.len at.ops.now at.k l.t c.loop-t-test.true c.op.ensures in record {
      parts = c.due_next-left.ensures ∙ turn_due 0 0 (code_of at) l.t (instruction no_op) _ l.left here x l.invariant.parts;
      gives = in_more (code_of at) c.args.first l.t l.invariant.gives (instruction no_op) here (sym c.well_placed.ensures ∙ c.if-not-well_placed.false);
    }

pub returns : goal.returns
returns c =
    let at = c.args.self in
    let end : length (code_of at) ≡ at.len = code_length at.len at.ops.now at.k in
    ap line_told (in_end (code_of at) c.args.first c.loop-t.t c.loop-t.invariant.gives (omega (arith, end, c.loop-t-test.false)))
