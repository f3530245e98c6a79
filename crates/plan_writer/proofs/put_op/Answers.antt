-- `put_op` writes a line `op=`. Assumes nothing.
use mathlib.Core.Path.{ap, ◌∙◌}
use Rattle.plan_writer.specs.Texts.{op_row}
use Rattle.plan_writer.proofs.Laws.{op_word_text}
use Rattle.text.proofs.Writing.{◌▸◌, wrote_as}
use Rattle.rules.specs.Behaviours.{instruction}
use Rattle.words.specs.Words.{letters}
use Rattle.plan_writer.proofs.put_op.Goals as goal

pub returns : goal.returns
unfolding op_row instruction
returns c =
    c.put_bytes-e.ensures ▸ wrote_as (ap letters c.op_word.ensures ∙ op_word_text c.args.op.number) c.put_word-e.ensures
    ▸ c.put_operands-e.ensures ▸ c.put_byte.ensures
