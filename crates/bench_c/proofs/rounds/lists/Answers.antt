-- `lists` tells the last listing's length; each listing but the first is written over itself. Assumes nothing.
use mathlib.Core.Path.{◌∙◌, ap}
use Rattle.listing.proofs.Laws.{told_length}
use Rattle.listing.specs.Answers.{Listed}
use Rattle.bench_c.proofs.Laws.{turn_first, turn_next, turn_last}
use Rattle.bench_c.proofs.Listings.{list_turn, list_length}
use Rattle.bench_c.proofs.rounds.lists.Goals as goal

pub rounds-init : goal.rounds-init
rounds-init c = (turn_first, turn_first)

pub rounds-preserved : goal.rounds-preserved
rounds-preserved c =
    let again = list_turn c.args.n c.args.out.now c.rounds.invariant.1 in
    let length = c.unwrap_or-last.ensures ∙ told_length c.list.result ∙ ap (λ (r : Listed). r.length) (c.list.ensures.answer ∙ again.0) in (
      turn_next c.rounds.invariant.0 c.rounds-test.true length,
      turn_next c.rounds.invariant.1 c.rounds-test.true (c.list.ensures.buffer ∙ again.1),
    )

pub shape_of-out : goal.shape_of-out
shape_of-out c = list_length c.args.n c.args.out.now c.rounds.invariant.1

pub returns : goal.returns
returns c = record { answer = turn_last c.rounds.invariant.0 c.rounds-test.false; buffer = turn_last c.rounds.invariant.1 c.rounds-test.false }
