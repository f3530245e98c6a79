-- `bench_sound` looks at the node that the two texts lead to. Assumes nothing.
use mathlib.Core.Path.{◌∙◌, ap}
use borrow.Author.Rules.{rules}
use Rattle.rules.specs.Nodes.{sound}
use Rattle.bench_c.specs.Rounds.{sound_in}
use Rattle.bench_c.proofs.bench_sound.Goals as goal

pub returns : goal.returns
unfolding sound_in
returns c = c.times.ensures (sound c.reached-n.result) (λ r p. search rules) ∙ ap (sound_in c.args.rounds) c.reached-n.ensures
