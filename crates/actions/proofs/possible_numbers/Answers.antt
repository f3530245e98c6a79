-- `possible_numbers` makes the number of each turn's step. Assumes nothing.
use native.Mathlib.Omega.{arith}
use Rattle.actions.proofs.AllSteps.{filled_all}
use Rattle.actions.proofs.possible_numbers.Goals as goal

pub returns : goal.returns
returns c = let items = c.from_fn.ensures.items in filled_all _ items.long 288 (omega arith) (λ k h. (items.at k 0 h).2.met)
