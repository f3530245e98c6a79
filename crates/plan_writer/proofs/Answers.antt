-- What the writer answers: 31 before 30, then by the room in the buffer. Assumes nothing.
--   write_refused   behaviours and starts that no accepted text holds
--   write_allowed   others: what is told and shown of their text
use mathlib.Core.Bool.{Bool, true, false}
use mathlib.Core.List.{List}
use mathlib.Core.Path.{◌≡◌, sym, ◌∙◌}
use Prim.Native.Nat.{ℕ}
use Rattle.node.specs.declared.Start.{Start}
use Rattle.rules.specs.Answers.{not_sound}
use Rattle.rules.specs.Behaviours.{Instruction}
use Rattle.listing.specs.Answers.{Listed, refused_with, told, shown}
use Rattle.plan_writer.specs.Answers.{plan_sound, write_told, write_shown}
use Rattle.plan_writer.specs.Texts.{plan_text}

module _ (codes : List (List Instruction)) (starts : List Start) (o : List ℕ) {t : Bool} (is : t ≡ plan_sound codes starts) where
  pub write_refused : t ≡ false → (refused_with not_sound ≡ write_told codes starts o) × (o ≡ write_shown codes starts o)
  unfolding write_told write_shown
  write_refused e = (rw (sym is ∙ e), rw (sym is ∙ e))

  pub write_allowed : {r : Listed} {m : List ℕ} → t ≡ true → (r ≡ told o (plan_text codes starts)) × (m ≡ shown o (plan_text codes starts))
      → (r ≡ write_told codes starts o) × (m ≡ write_shown codes starts o)
  unfolding write_told write_shown
  write_allowed e p = (rw (sym is ∙ e) p.0, rw (sym is ∙ e) p.1)
