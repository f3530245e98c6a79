-- `open_controller_simulate` tells the length, or the refusal as one number. Assumes nothing.
use mathlib.Core.Path.{◌∙◌}
use Rattle.controller_c.proofs.Answers.{told_number}
use Rattle.controller_c.proofs.open_controller_simulate.Goals as goal

pub returns : goal.returns
returns c = record {
  answer = c.unwrap_or.ensures ∙ told_number c.simulate.result c.simulate.ensures.answer;
  buffer = c.simulate.ensures.buffer;
}
