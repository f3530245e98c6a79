-- `arrival` gives what follows `arrive=`: two numbers. Assumes nothing.
use mathlib.Core.Path.{ap, ◌∙◌}
use borrow.Author.Tests.{eq-eqb, ne_eqb}
use Rattle.rules.specs.Answers.{done}
use Rattle.schedule.specs.Reading.{arrival_of, line_of}
use Rattle.schedule.proofs.Lines.{pack_first, pack_second, pack_done}
use Rattle.schedule.proofs.arrival.Goals as goal

pub returns-then-count_fields-ne2 : goal.returns-then-count_fields-ne2
unfolding arrival_of
returns-then-count_fields-ne2 c = simp (← c.count_fields.ensures, ne_eqb _ _ c.if-count_fields-ne2.true)

pub returns-in_err-owner : goal.returns-in_err-owner
unfolding arrival_of
returns-in_err-owner c =
    ap line_of c.from_residual.ensures
    ∙ simp (← c.count_fields.ensures, eq-eqb _ _ c.if-count_fields-ne2.false, ← c.field.ensures) (pack_first _ _ _ c.in_err-owner.ensures)

pub returns-in_err-from : goal.returns-in_err-from
unfolding arrival_of
returns-in_err-from c =
    ap line_of c.from_residual-in_err-from.ensures
    ∙ simp (← c.count_fields.ensures, eq-eqb _ _ c.if-count_fields-ne2.false, ← c.field-2.ensures) (pack_second _ _ _ c.in_err-from.ensures)

pub returns : goal.returns
unfolding arrival_of
returns c =
    ap done c.packed.ensures
    ∙ simp (← c.count_fields.ensures, eq-eqb _ _ c.if-count_fields-ne2.false, ← c.field.ensures, ← c.field-2.ensures)
    (pack_done _ _ _ c.in_ok-owner.ensures c.in_ok-from.ensures)
