-- `open_controller_consulted` tells the count of the node that is reached. Assumes nothing.
use Rattle.controller_c.proofs.Counts.{count_refused, count_reached}
use Rattle.controller_c.proofs.open_controller_consulted.Goals as goal

pub returns-in-None : goal.returns-in-None
returns-in-None c = count_refused _ _ _ c.in-None.ensures

pub returns-in-Some : goal.returns-in-Some
returns-in-Some c = count_reached _ _ _ c.in-Some.ensures c.consultation.ensures c.count_number.ensures
