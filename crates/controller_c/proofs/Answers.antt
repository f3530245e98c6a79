-- What is exported of an answer, by its number. Assumes nothing.
--   told_number                         what is told of a play
--   told_unsound                        what is told of the refusal of a text that is to be written
--   first_refused second_refused written_back   what is told of two loads: one is refused, and none is
use mathlib.Core.List.{List}
use mathlib.Core.Path.{◌≡◌, refl, ap, ◌∙◌}
use Prim.Native.Nat.{ℕ}
use borrow.Author.Tests.{eq-eqb, ne_eqb}
use Rattle.std.specs.Prelude.{Result, Ok, Err}
use Rattle.std.specs.Result.{result_unwrap_or}
use Rattle.node.specs.declared.Behaviours.{Behaviours}
use Rattle.node.specs.declared.Refusal.{Refusal}
use Rattle.node.specs.declared.Refusal.TheVariants.{BadNumber, OwnerUnborn, OwnerGone, NoneInFlight, MailboxFull, MailboxEmpty, PairFull, NotUnborn, NoTimeout, NoFit, OutputShort, NotSound, ScheduleTooLong}
use Rattle.node.specs.declared.Starts.{Starts}
use Rattle.node.specs.Refusals.{refusal_number}
use Rattle.node.specs.Starts.{node_behaviours, node_starts, starts_in}
use Rattle.listing.specs.Answers.{Listed, listed_of}
use Rattle.listing.proofs.Laws.{refusal_some}
use Rattle.text.specs.Writing.{top}
use Rattle.plan.specs.Plans.{Loaded}
use Rattle.plan_writer.specs.Answers.{codes_of, write_told, write_shown}
use Rattle.controller_c.specs.Exported.{exported, unsound, exported_written, rewritten, rewritten_shown}

pub told_number : (r : Result ℕ Refusal) {y : Listed} → listed_of r ≡ y → result_unwrap_or r top ≡ exported y
unfolding exported
told_number (Ok k) is = rw (← is)
told_number (Err e) is = rw (← is, ne_eqb (refusal_number e) 0 (refusal_some e))

-- every refusal of a writer but 30 is told as 31
pub told_unsound : (k : Refusal) → (k ≡ OutputShort → ⊥) → unsound ≡ exported_written (listed_of (Err k))
unfolding exported_written
told_unsound BadNumber h = refl
told_unsound OwnerUnborn h = refl
told_unsound OwnerGone h = refl
told_unsound NoneInFlight h = refl
told_unsound MailboxFull h = refl
told_unsound MailboxEmpty h = refl
told_unsound PairFull h = refl
told_unsound NotUnborn h = refl
told_unsound NoTimeout h = refl
told_unsound NoFit h = refl
told_unsound OutputShort h = absurd (h refl)
told_unsound NotSound h = refl
told_unsound ScheduleTooLong h = refl

module _ (x y : Loaded) (o : List ℕ) where
  pub first_refused : {p : Loaded} → p ≡ x → (p.number ≡ 0 → ⊥) → (0 ≡ rewritten x y o) × (o ≡ rewritten_shown x y o)
  unfolding rewritten rewritten_shown
  first_refused {p} is h = let no = ne_eqb x.number 0 (rw (← is) h) in (rw no, rw no)

  module _ {p : Loaded} (first : p ≡ x) (some : p.number ≡ 0) {q : Loaded} (second : q ≡ y) where
    pub second_refused : (q.number ≡ 0 → ⊥) → (0 ≡ rewritten x y o) × (o ≡ rewritten_shown x y o)
    unfolding rewritten rewritten_shown
    second_refused h =
        let yes = eq-eqb x.number 0 (rw (← first) some) in
        let no = ne_eqb y.number 0 (rw (← second) h) in
        (rw (yes, no), rw (yes, no))

    pub written_back : {b : Behaviours} {s : Starts} {w : Listed} {m : List ℕ} {k : ℕ} → q.number ≡ 0 → b ≡ node_behaviours p.node → s ≡ node_starts q.node
        → (w ≡ write_told (codes_of b) (starts_in s) o) × (m ≡ write_shown (codes_of b) (starts_in s) o) → k ≡ exported_written w → (k ≡ rewritten x y o) × (m ≡ rewritten_shown x y o)
    unfolding rewritten rewritten_shown
    written_back {b = b} {s = s} h e f r t =
        let yes = eq-eqb x.number 0 (rw (← first) some) in
        let too = eq-eqb y.number 0 (rw (← second) h) in
        let codes = e ∙ ap (λ (l : Loaded). node_behaviours l.node) first in
        let begun = f ∙ ap (λ (l : Loaded). node_starts l.node) second in
        let told = ap (λ (v : Behaviours). write_told (codes_of v) (starts_in s) o) codes
        ∙ ap (λ (v : Starts). write_told (codes_of (node_behaviours x.node)) (starts_in v) o) begun in
        let shown = ap (λ (v : Behaviours). write_shown (codes_of v) (starts_in s) o) codes
        ∙ ap (λ (v : Starts). write_shown (codes_of (node_behaviours x.node)) (starts_in v) o) begun in
        (rw (yes, too) (t ∙ ap exported_written (r.0 ∙ told)), rw (yes, too) (r.1 ∙ shown))
