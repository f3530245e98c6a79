-- `possible` makes the step of a turn. Assumes nothing.
use Rattle.actions.proofs.AllSteps.{step_at_lem}
use Rattle.actions.proofs.possible.Goals as goal

pub returns : goal.returns
returns c = rw (c.possible_kind.ensures, c.fallen.ensures) (step_at_lem _ c.requires)
