-- `reached` plays the steps of the one text on the node of the other. Assumes nothing.
use mathlib.Core.List.{List}
use mathlib.Core.Path.{◌∙◌, ap}
use Rattle.rules.specs.Steps.{Action, Outcome, play}
use Rattle.bench_c.proofs.Laws.{of_texts}
use Rattle.bench_c.proofs.reached.Goals as goal

pub returns : goal.returns
returns c =
    ap (λ (r : Outcome). r.node) c.play.ensures ∙ ap (λ (l : List Action). (play c.load.result.node l).node) c.numbers_read.ensures.steps
    ∙ of_texts (λ n l. (play n l).node) c.args.plan.now c.args.steps.now c.load.ensures c.read-s.ensures
