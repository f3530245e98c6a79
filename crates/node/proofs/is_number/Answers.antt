-- `is_number` gives `is_number`. Assumes nothing.
use Rattle.node.specs.Values.{is_number}
use Rattle.node.proofs.is_number.Goals as goal

pub returns : goal.returns
unfolding is_number
returns c = c.within.ensures
