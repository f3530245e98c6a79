-- `bench_list` lists the node that the two texts lead to. Assumes nothing.
use mathlib.Core.Path.{◌∙◌, ap}
use Rattle.listing.specs.Answers.{list_told, list_shown}
use Rattle.node.specs.declared.Node.{Node}
use Rattle.bench_c.specs.Rounds.{after}
use Rattle.bench_c.proofs.bench_list.Goals as goal

pub returns : goal.returns
returns c =
    let its-lists = c.lists in
    let its-reached = c.reached in
    let its-args = c.args in
    let old = its-args.out.now in
    record {
      answer = its-lists.ensures.answer ∙ ap (λ (n : Node). after its-args.rounds 0 (list_told n old).length) its-reached.ensures;
      buffer = its-lists.ensures.buffer ∙ ap (λ (n : Node). after its-args.rounds old (list_shown n old)) its-reached.ensures;
    }
