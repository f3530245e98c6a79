-- `answer` gives the whole answer: its buffer holds the longest. Assumes nothing.
use Rattle.controller.proofs.Short.{program_length}
use Rattle.open_controller.proofs.answer.Goals as goal

pub returns : goal.returns
returns c =
    let sim = c.simulate in
    let both = program_length c.args.plan.now c.args.steps.now c.args.out.now sim.result c.requires (sim.ensures.answer, sim.ensures.buffer) in
    record { told = rw c.unwrap_or.ensures both.0; shown = rw c.unwrap_or.ensures both.1 }
