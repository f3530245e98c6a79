-- `ops` reads the ops of a behaviour. The invariant: those that are read stand in the node, and those that are left give the answer.
-- Assumes nothing.
use mathlib.Core.List.{List, []}
use Prim.Native.Nat.{◌-◌}
use Rattle.node.specs.declared.Op.{Op}
use Rattle.plan_line.specs.Lines.{op_line}
use Rattle.plan.specs.Reading.{on_line}
use Rattle.plan.specs.Rests.{coded_node, left_of}
use Rattle.plan.proofs.Loops.{remains, Turn}
use Rattle.plan.proofs.Nodes.{with_first}
use Rattle.plan.proofs.loading.Loading.ops.Given as goal

abbrev pub invariant-loop-i : goal.invariant-loop-i
invariant-loop-i l =
    let one = λ (ys : List Op). on_line (op_line l.count l.len) in
    let made = with_first (coded_node l.initial.self.codes) in
    Turn one made (remains one made l.len [] (left_of l.initial.self.rest)) l.i (l.len - l.i) (left_of l.self.rest) (coded_node l.self.codes)
