-- `read_number` gives the number that a text is, at any length. Assumes nothing.
use mathlib.Core.Path.{sym, ◌∙◌}
use Rattle.node.specs.Texts.{bytes}
use Rattle.text.proofs.Numbers.{number_zero, number_behind, number_whole}
use Rattle.text.proofs.Parts.{equal_lem, strip_lem}
use Rattle.text.proofs.read_number.Goals as goal
use Rattle.text.proofs.read_number.Goals.{in-Some, in-None}

pub returns : goal.returns
returns c =
    let is = rw c.as_slice.ensures at c.eq.ensures in
    let other = sym (equal_lem c.args.s.now (bytes "-0")) ∙ sym is ∙ c.if-eq.false in
    let told = sym (strip_lem (bytes "-") c.args.s.now) in
    rw c.ok_or.ensures.value (elim c.match-strip_prefix.branch [
      | in-Some w ↦ rw w.n-is (number_behind _ other (told ∙ w.in-Some.ensures.cases.0) _ _ w.map-n.ensures.cases (rw w.in-Some.ensures.cases.1 at w.natural.ensures))
      | in-None w ↦ rw w.n-is (number_whole _ other (told ∙ w.in-None.ensures.cases) _ _ w.map-n-in-None.ensures.cases w.natural-in-None.ensures)
    ])

pub returns-then-eq : goal.returns-then-eq
returns-then-eq c =
    let is = rw c.as_slice.ensures at c.eq.ensures in
    number_zero _ (sym (equal_lem c.args.s.now (bytes "-0")) ∙ sym is ∙ c.if-eq.true)
