-- `Code::has_clauses` tests the ops behind a recv. The loop keeps that those that are left give the answer. Assumes nothing.
use mathlib.Core.Path.{refl}
use Rattle.placement.proofs.Laws.{clauses_few, clauses_begin, clause_stop, clause_more, clauses_end}
use Rattle.placement.proofs.Code.has_clauses.Goals as goal

pub returns-then-self-next : goal.returns-then-self-next
returns-then-self-next c = let at = c.args.self in clauses_few at.len at.ops.now at.k c.args.t c.args.n c.if-self-next.true refl

pub loop-i-init : goal.loop-i-init
loop-i-init c = let at = c.args.self in clauses_begin at.len at.ops.now at.k c.args.t c.args.n c.if-self-next.false

pub returns-then-op-ne-CLAUSE : goal.returns-then-op-ne-CLAUSE
returns-then-op-ne-CLAUSE c =
    let at = c.args.self in
    clause_stop at.len at.ops.now at.k c.args.t c.args.n c.if-self-next.false c.loop-i.i c.loop-i.invariant c.loop-i-test.true c.op-op.ensures c.if-op-ne-CLAUSE.true

pub loop-i-preserved : goal.loop-i-preserved
loop-i-preserved c =
    let at = c.args.self in
    clause_more at.len at.ops.now at.k c.args.t c.args.n c.if-self-next.false c.loop-i.i c.loop-i.invariant c.loop-i-test.true c.op-op.ensures c.if-op-ne-CLAUSE.false

pub returns : goal.returns
returns c =
    let at = c.args.self in
    clauses_end at.len at.ops.now at.k c.args.t c.args.n c.if-self-next.false c.loop-i.i c.loop-i.invariant c.loop-i-test.false
