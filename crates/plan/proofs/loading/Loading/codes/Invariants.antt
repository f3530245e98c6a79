-- `codes` reads the behaviours of a plan. The invariant: those that are read stand in the node, and those that are left give the answer.
-- Assumes nothing.
use mathlib.Core.List.{List, []}
use Prim.Native.Nat.{◌-◌}
use Rattle.node.specs.declared.Op.{Op}
use Rattle.plan.specs.Plans.{code_lines, with_code, with_each}
use Rattle.plan.specs.Rests.{coded_node, left_of}
use Rattle.plan.proofs.Loops.{remains, Turn}
use Rattle.plan.proofs.loading.Loading.codes.Given as goal

abbrev pub invariant-loop : goal.invariant-loop
invariant-loop l =
    let one = λ (ys : List (List Op)). code_lines l.count in
    let made = with_each with_code (coded_node l.initial.self.codes) in
    Turn one made (remains one made l.count [] (left_of l.initial.self.rest)) l.counter (l.count - l.counter) (left_of l.self.rest) (coded_node l.self.codes)
