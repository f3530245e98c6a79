-- `kinds_of` notes all clauses: the loop keeps that those that are left give the set. Assumes nothing.
use mathlib.Core.Path.{sym, ◌∙◌, ap}
use Rattle.receive.specs.Kinds.{widened}
use Rattle.receive.proofs.KindSets.{noting_turn, noting_end}
use Rattle.receive.proofs.kinds_of.Goals as goal

pub loop-clause-preserved : goal.loop-clause-preserved
loop-clause-preserved c =
    let l = c.loop-clause in
    rw c.noted-kinds.ensures (noting_turn _ l.kinds l.clause-index c.loop-clause-test.true l.invariant)

pub returns : goal.returns
returns c =
    let l = c.loop-clause in
    c.widened.ensures ∙ ap widened (sym (noting_end _ l.kinds l.clause-index c.loop-clause-test.false l.invariant))
