-- `put_kind` writes one exact value, or the word of a kind. Assumes nothing.
use Rattle.text.proofs.Writing.{wrote_as}
use Rattle.plan_writer.proofs.Laws.{exact_text, kind_text_lem}
use Rattle.plan_writer.proofs.put_kind.Goals as goal

pub returns-then-kind-eq-EXACT : goal.returns-then-kind-eq-EXACT
returns-then-kind-eq-EXACT c = wrote_as (exact_text _ _ c.if-kind-eq-EXACT.true) c.put_value.ensures

pub returns : goal.returns
returns c = wrote_as (kind_text_lem _ _ c.if-kind-eq-EXACT.false c.kind_word.ensures) c.put_word.ensures
