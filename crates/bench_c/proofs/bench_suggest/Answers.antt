-- `bench_suggest` looks at the node that the two texts lead to. Assumes nothing.
use mathlib.Core.Path.{◌∙◌, ap}
use borrow.Author.Rules.{rules}
use Rattle.rules.specs.Suggest.{suggest}
use Rattle.bench_c.specs.Rounds.{says_none, stuck_in}
use Rattle.bench_c.proofs.Laws.{says_none_lem}
use Rattle.bench_c.proofs.bench_suggest.Goals as goal

pub returns : goal.returns
unfolding stuck_in
returns c = c.times.ensures (says_none (suggest c.reached-n.result)) (λ r p. search (rules, says_none_lem)) ∙ ap (stuck_in c.args.rounds) c.reached-n.ensures
