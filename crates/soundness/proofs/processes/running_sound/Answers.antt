-- `running_sound` gives `running_told`: its tests are made in the same order. Assumes nothing.
use mathlib.Core.Path.{sym, ◌∙◌}
use Rattle.soundness.specs.Parts.{running_told}
use Rattle.soundness.proofs.processes.running_sound.Goals.{then-within, else-within}
use Rattle.soundness.proofs.processes.running_sound.Goals as goal

pub returns-then-registers_sound : goal.returns-then-registers_sound
unfolding running_told
returns-then-registers_sound c =
    let test = c.if-registers_sound.true in
    elim c.if-within.branch [
      | then-within w ↦ rw (sym c.within.ensures ∙ w.if-within.true, sym w.registers_sound.ensures ∙ sym w.value-is ∙ test, ← c.index.ensures) c.at_op_or_end.ensures
      | else-within w ↦ let here = w.value-is in let past = w.if-within.false in cc
    ]

pub returns-else-registers_sound : goal.returns-else-registers_sound
unfolding running_told
returns-else-registers_sound c =
    let test = c.if-registers_sound.false in
    elim c.if-within.branch [
      | then-within w ↦ rw (sym c.within.ensures ∙ w.if-within.true, sym w.registers_sound.ensures ∙ sym w.value-is ∙ test) test
      | else-within w ↦ rw (sym c.within.ensures ∙ w.if-within.false) (w.value-is ∙ w.if-within.false)
    ]
