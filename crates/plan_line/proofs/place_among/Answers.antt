-- `place_among` gives the place of a word among words, by their numbers. Assumes nothing.
use mathlib.Core.Path.{◌∙◌}
use Rattle.plan_line.proofs.Ops.{place_known, place_none}
use Rattle.plan_line.proofs.place_among.Goals as goal

pub returns-in_err-word_code : goal.returns-in_err-word_code
returns-in_err-word_code c = λ words is small. c.from_residual.ensures ∙ place_none c.args.word.now words small is c.in_err-word_code.ensures

pub returns : goal.returns
returns c = λ words is small. c.place_of.ensures ∙ place_known c.args.word.now words small is c.in_ok-word_code.ensures
