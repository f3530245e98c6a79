-- `play_lent` lends the records that it makes of numbers, or hands more than 4,096 of them to the engine. Assumes nothing.
use Rattle.steps.proofs.Laws.{made_all}
use Rattle.steps.proofs.play_lent.Goals as goal

pub returns : goal.returns
returns c =
    let its-decoded = c.decoded-steps in
    made_all c.args.n c.args.numbers.now its-decoded.result its-decoded.ensures c.play_steps.ensures
