-- `start_each` reads starts. The invariant: those that are read are started, and those that are left give the answer. Assumes nothing.
use mathlib.Core.List.{List, []}
use Prim.Native.Nat.{◌-◌}
use Rattle.plan_line.specs.Lines.{Start, start_line}
use Rattle.plan.specs.Plans.{before_first, last_from}
use Rattle.plan.specs.Reading.{on_line}
use Rattle.plan.specs.Rests.{coded_node, left_of}
use Rattle.plan.proofs.Loops.{remains, Turn}
use Rattle.plan.proofs.Nodes.{begun}
use Rattle.plan.proofs.loading.Loading.start_each.Given as goal

abbrev pub invariant-loop : goal.invariant-loop
invariant-loop l =
    let one = λ (ys : List Start). on_line (start_line l.count (last_from before_first ys)) in
    let made = begun (coded_node l.initial.self.codes) in
    Turn one made (remains one made l.len [] (left_of l.initial.self.rest)) l.counter (l.len - l.counter) (left_of l.self.rest) ((coded_node l.self.codes), l.last)
