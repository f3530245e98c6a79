-- `play_and_list` plays, which looks at 31, and looks at 30. Assumes nothing.
use mathlib.Core.Path.{refl, sym, ◌∙◌}
use mathlib.Core.List.{map}
use Rattle.actions.specs.Numbers.{action_of}
use Rattle.listing.proofs.Laws.{refusal_some}
use Rattle.listing.specs.Answers.{listed_of}
use Rattle.controller.proofs.Laws.{is_unsound, not_unsound, listed_unsound, listed_short, listed_whole}
use Rattle.std.specs.Prelude.{Ok, Err}
use Rattle.std.proofs.lemmas.Result.{err_from_is_err_and}
use Rattle.controller.proofs.play_and_list.Goals as goal

pub returns-then-eq : goal.returns-then-eq
returns-then-eq c =
    let unsound = is_unsound c.play-r.result.refusal (sym c.eq.ensures ∙ c.if-eq.true) in
    let x = listed_unsound c.args.n (map action_of c.args.numbers.now) _ c.play-r.result c.play-r.ensures unsound in
    record { answer = x.0; refused = x.1; buffer = x.2 }

pub returns-in_err-length : goal.returns-in_err-length
returns-in_err-length c =
    let told = c.in_err-length in
    let other = not_unsound c.play-r.result.refusal (sym c.eq.ensures ∙ c.if-eq.false) in
    let x = listed_short c.args.n (map action_of c.args.numbers.now) _ c.play-r.result c.play-r.ensures other
    (listed_of (Err told.field-0.0)) _ (told.ensures.answer, told.ensures.buffer) (refusal_some told.field-0.0) in
    let p = err_from_is_err_and c.from_residual.result c.from_residual.ensures.1 in
    record { answer = rw (p.1, p.2) x.0; refused = rw p.1 x.1; buffer = x.2 }

pub returns : goal.returns
returns c =
    let told = c.in_ok-length in
    let other = not_unsound c.play-r.result.refusal (sym c.eq.ensures ∙ c.if-eq.false) in
    let x = listed_whole c.args.n (map action_of c.args.numbers.now) _ c.play-r.result c.play-r.ensures other
    (listed_of (Ok told.length)) _ (told.ensures.answer, told.ensures.buffer) refl in
    record { answer = x.0; refused = x.1; buffer = x.2 }
