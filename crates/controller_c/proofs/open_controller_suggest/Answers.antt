-- `open_controller_suggest` tells the suggestion on the node that is reached. Assumes nothing.
use Rattle.controller_c.proofs.Offers.{offer_refused, offer_reached}
use Rattle.controller_c.proofs.open_controller_suggest.Goals as goal

pub returns-in-None : goal.returns-in-None
returns-in-None c = offer_refused _ _ c.in-None.ensures

pub returns-in-Some : goal.returns-in-Some
returns-in-Some c = offer_reached _ _ c.in-Some.ensures c.suggest.ensures c.offer_number.ensures
