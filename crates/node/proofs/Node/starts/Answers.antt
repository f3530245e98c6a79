-- `Node::starts` puts the live processes into a row. The invariant: those before k are in it. Assumes nothing.
use native.Mathlib.Omega.{arith}
use Rattle.node.specs.Starts.{node_starts}
use Rattle.node.proofs.Good.{sized_node}
use Rattle.node.proofs.Live.{live_all, live_next, live_room}
use Rattle.node.proofs.Node.starts.Goals as goal

pub with_live-row-requires : goal.with_live-row-requires
with_live-row-requires c =
    let turn = c.loop-k in
    let all = sized_node c.args.self c.well_formed.0 in
    live_room _ turn.k turn.invariant c.loop-k-test.true (omega (arith, all.processes, c.loop-k-test.true))

pub loop-k-preserved : goal.loop-k-preserved
loop-k-preserved c =
    let turn = c.loop-k in
    let all = sized_node c.args.self c.well_formed.0 in
    live_next _ turn.k turn.invariant (omega (arith, all.processes, c.loop-k-test.true)) c.with_live-row.ensures

pub returns : goal.returns
unfolding node_starts
returns c =
    let turn = c.loop-k in
    let all = sized_node c.args.self c.well_formed.0 in
    live_all _ turn.k turn.invariant (omega (arith, all.processes, c.loop-k-test.false))
