-- `Peers::lowest` finds the first digit: the loop keeps that the digits that are left give the answer. Assumes nothing.
use mathlib.Core.Path.{sym, ◌∙◌, ap}
use native.Mathlib.Omega.{arith}
use Rattle.node.specs.Sets.{peer_told}
use Rattle.node.proofs.Sets.{lowest_start, lowest_here, lowest_next, lowest_end, told_number}
use Rattle.node.proofs.Peers.lowest.Goals as goal

pub loop-k-init : goal.loop-k-init
loop-k-init c = lowest_start _

pub returns-then-has : goal.returns-then-has
returns-then-has c =
    let l = c.loop-k in
    let here = lowest_here _ l.k l.auto.k (omega arith) (sym c.has.ensures ∙ c.if-has.true) in
    sym (ap peer_told (l.invariant ∙ here) ∙ told_number l.k l.auto.k)

pub loop-k-preserved : goal.loop-k-preserved
loop-k-preserved c = let l = c.loop-k in l.invariant ∙ lowest_next _ l.k l.auto.k (omega arith) (sym c.has.ensures ∙ c.if-has.false)

pub returns : goal.returns
returns c = let l = c.loop-k in sym (ap peer_told (l.invariant ∙ lowest_end _ l.k l.auto.k (omega arith)))
