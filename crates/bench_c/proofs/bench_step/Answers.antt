-- `bench_step` takes one by one the steps that it read, from the node that it loaded on. Assumes nothing.
use mathlib.Core.List.{List, map}
use mathlib.Core.Path.{◌∙◌, ap}
use borrow.Author.Rules.{rules}
use Rattle.actions.specs.Numbers.{action_of}
use Rattle.rules.specs.Steps.{Action}
use Rattle.bench_c.specs.Rounds.{after, singly}
use Rattle.bench_c.proofs.Laws.{of_texts}
use Rattle.bench_c.proofs.bench_step.Goals as goal

pub returns : goal.returns
returns c =
    c.last_of.ensures (singly c.load.result.node (map action_of c.numbers_read-numbers.result.now)) (λ r p. search rules)
    ∙ ap (λ (l : List Action). after c.args.rounds 0 (singly c.load.result.node l)) c.numbers_read-numbers.ensures.steps
    ∙ of_texts (λ n l. after c.args.rounds 0 (singly n l)) c.args.plan.now c.args.steps.now c.load.ensures c.read-s.ensures
