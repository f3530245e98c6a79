-- The loop of `play_steps`: the play so far comes, with the steps that are left, to the whole play. Assumes nothing.
use Rattle.std.proofs.Common.{map, ◌≤◌}
use Rattle.rules.specs.Steps.{meaning, play}
use Rattle.engine.specs.Answers.{played_of}
use Rattle.steps.proofs.Laws.{Walked}
use Rattle.steps.proofs.play_steps.Given as goal

abbrev pub invariant-loop-s : goal.invariant-loop-s
invariant-loop-s l = (l.r.accepted ≤ l.s-index) × Walked l.steps (play l.fn.n (map meaning l.steps)) l.s-index (played_of l.r)
