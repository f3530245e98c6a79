-- `bench_play` plays what it loaded and read. Assumes nothing.
use mathlib.Core.List.{List, map}
use mathlib.Core.Path.{◌∙◌, ap}
use borrow.Author.Rules.{rules}
use Rattle.actions.specs.Numbers.{action_of}
use Rattle.rules.specs.Steps.{Action, play}
use Rattle.bench_c.specs.Rounds.{after}
use Rattle.bench_c.proofs.Laws.{of_texts}
use Rattle.bench_c.proofs.bench_play.Goals as goal

pub returns : goal.returns
returns c =
    c.last_of.ensures (play c.load.result.node (map action_of c.numbers_read-numbers.result.now)).accepted (λ r p. search rules)
    ∙ ap (λ (l : List Action). after c.args.rounds 0 (play c.load.result.node l).accepted) c.numbers_read-numbers.ensures.steps
    ∙ of_texts (λ n l. after c.args.rounds 0 (play n l).accepted) c.args.plan.now c.args.steps.now c.load.ensures c.read-s.ensures
