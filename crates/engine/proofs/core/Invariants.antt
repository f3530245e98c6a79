-- The loop of the engine. What a turn knows is named once, at the places of the walk where it is learnt. Assumes nothing.
use mathlib.Core.Path.{◌≡◌}
use Prim.Native.Nat.{◌+◌, ◌-◌, ◌*◌}
use Rattle.rules.specs.Nodes.{Sound}
use Rattle.engine.proofs.Laws.{Going, with_slots, with_cells}
use Rattle.turns.proofs.Stores.{Moved}
use Rattle.engine.proofs.core.Given as goal

abbrev pub invariant-loop-m : goal.invariant-loop-m
invariant-loop-m l = (l.node ≡ with_slots l.initial.node l.node.slots) × Moved l.initial.node.slots l.from l.top l.node.slots (l.m - 1)

abbrev pub invariant-loop-f : goal.invariant-loop-f
invariant-loop-f l = (l.node ≡ with_cells l.initial.node l.node.cells) × Moved l.initial.node.cells (4 * l.r) (l.last + 1) l.node.cells l.f

abbrev pub invariant-loop-t : goal.invariant-loop-t
invariant-loop-t l = Sound l.node × Going l.looks l.initial.node l.numbers l.t l.node
