-- `step_of` computes the step that a number stands for. Assumes nothing.
use Rattle.actions.specs.Numbers.{decode}
use Rattle.actions.proofs.step_of.Goals as goal

pub returns : goal.returns
unfolding decode
returns c = rw c.min.ensures
