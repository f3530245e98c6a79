-- `Code::well_placed` gives rule 14 of an op, by its number. Assumes nothing.
use mathlib.Core.Path.{sym, ◌∙◌, ap}
use Rattle.rules.specs.Behaviours.{in_turn}
use Rattle.placement.proofs.Laws.{placed_recv, placed_out, placed_in}
use Rattle.placement.proofs.Code.well_placed.Goals as goal

pub returns-then-op-eq-RECV : goal.returns-then-op-eq-RECV
returns-then-op-eq-RECV c =
    let at = c.args.self in
    placed_recv at.len at.ops.now at.k c.args.t c.requires.inside c.op-op.ensures c.if-op-eq-RECV.true c.has_clauses.ensures

pub returns-then-in_turn : goal.returns-then-in_turn
returns-then-in_turn c =
    let at = c.args.self in
    let turn = ap (in_turn c.op-op.result.number) (sym c.requires.parts) ∙ sym c.in_turn.ensures ∙ c.if-in_turn.true in
    placed_in at.len at.ops.now at.k c.args.t c.requires.inside c.op-op.ensures c.if-op-eq-RECV.false turn c.lands_free.ensures

pub returns-else-in_turn : goal.returns-else-in_turn
returns-else-in_turn c =
    let at = c.args.self in
    let turn = ap (in_turn c.op-op.result.number) (sym c.requires.parts) ∙ sym c.in_turn.ensures ∙ c.if-in_turn.false in
    placed_out at.len at.ops.now at.k c.args.t c.requires.inside c.op-op.ensures c.if-op-eq-RECV.false turn c.if-in_turn.false
