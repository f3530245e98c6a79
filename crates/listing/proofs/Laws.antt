-- What a call that lists answers, by the room in the buffer. Assumes nothing.
--   counted_nothing           a text that is counted over an empty slice
--   fits_short fits_whole     a buffer that is shorter than the text, and one that holds it
--   refusal_some              the number of a refusal is not 0
--   told_length               the length that is told: that of an answer, 0 of a refusal
--   told_by                   what is told by whether it fits
--   told_fits                 what is told and shown where the buffer holds the text
--   known_counted known_whole   a text that is known to have at most k bytes: a buffer of fewer bytes, and one of k or more
--   known_told_lem                where it has no more, what is told and shown of it is what is told and shown of any text
use mathlib.Core.Bool.{Bool, true, false, cond}
use mathlib.Core.List.{List, [], ◌++◌}
use mathlib.Core.Path.{◌≡◌, refl, ◌∙◌}
use Prim.Native.Nat.{ℕ, ◌≤◌, ◌<◌, min}
use native.Mathlib.Nat.{zero-add}
use native.Mathlib.Omega.{arith}
use borrow.Author.Tests.{lt-ltb, le-ltb, ltb-false}
use lib.Dec.{ltb}
use lib.ListN.{length, drop}
use lib.Seq.{sets-eq}
use Rattle.std.specs.Prelude.{Option, None, Some, Result, Ok, Err, ok_or}
use Rattle.std.specs.Result.{result_unwrap_or}
use Rattle.node.specs.declared.Refusal.{Refusal}
use Rattle.node.specs.declared.Refusal.TheVariants.{BadNumber, OwnerUnborn, OwnerGone, NoneInFlight, MailboxFull, MailboxEmpty, PairFull, NotUnborn, NoTimeout, NoFit, OutputShort, NotSound, ScheduleTooLong}
use Rattle.node.specs.Refusals.{refusal_number}
use Rattle.text.proofs.Writing.{sets_out, wrote_whole, counted_length}
use Rattle.text.specs.Writing.{top, Wrote}
use Rattle.listing.specs.Answers.{Listed, output_short, refused_with, listed_of, fitting, told, shown, known_told, known_shown}

pub refusal_some : (k : Refusal) → refusal_number k ≡ 0 → ⊥
refusal_some BadNumber e = omega (arith, e)
refusal_some OwnerUnborn e = omega (arith, e)
refusal_some OwnerGone e = omega (arith, e)
refusal_some NoneInFlight e = omega (arith, e)
refusal_some MailboxFull e = omega (arith, e)
refusal_some MailboxEmpty e = omega (arith, e)
refusal_some PairFull e = omega (arith, e)
refusal_some NotUnborn e = omega (arith, e)
refusal_some NoTimeout e = omega (arith, e)
refusal_some NoFit e = omega (arith, e)
refusal_some OutputShort e = omega (arith, e)
refusal_some NotSound e = omega (arith, e)
refusal_some ScheduleTooLong e = omega (arith, e)

pub told_length : (r : Result ℕ Refusal) → result_unwrap_or r 0 ≡ (listed_of r).length
told_length (Ok n) = refl
told_length (Err k) = refl

module _ (o text : List ℕ) where
  pub told_fits : length text ≤ length o → (told o text ≡ record { number = 0; length = length text }) × (shown o text ≡ text ++ drop (length text) o)
  unfolding told shown
  told_fits h = let fits = le-ltb (length o) (length text) h in (rw fits, rw fits)

  -- a text that is counted over an empty slice leaves what stands behind that slice
  pub counted_nothing : {n : List ℕ} {r : ℕ} → Wrote [] 0 text n r → n ++ o ≡ o
  counted_nothing p = rw (p.bytes ∙ sets_out [] 0 text (omega arith)) refl

  pub fits_short : length o < length text → (None ≡ fitting o text) × (o ≡ shown o text)
  unfolding fitting shown
  fits_short h = (simp (lt-ltb (length o) (length text) h), simp (lt-ltb (length o) (length text) h))

  pub fits_whole : {n : List ℕ} {r : ℕ} → length text ≤ length o → length o < top → Wrote o 0 text n r → (Some r ≡ fitting o text) × (n ≡ shown o text)
  unfolding fitting shown
  fits_whole {n} {r} h l p =
      let e : r ≡ length text = counted_length p l h in
      (simp (le-ltb (length o) (length text) h, e), simp (le-ltb (length o) (length text) h) (wrote_whole p h))

  -- what is told by whether it fits
  pub told_by : {f : Option ℕ} → f ≡ fitting o text → listed_of (ok_or f OutputShort) ≡ told o text
  unfolding fitting told
  told_by is = rw is (go (ltb (length o) (length text)))
    where
      go : (b : Bool) → listed_of (ok_or (cond b None (Some (length text))) OutputShort) ≡ cond b (refused_with output_short) (record { number = 0; length = length text })
      go true = refl
      go false = refl

-- ---- a text that is known to have at most k bytes
module _ (k : ℕ) (o text : List ℕ) where
  pub known_counted : {r : Listed} {n : List ℕ} → length o < k → (r ≡ told o text) × (n ≡ shown o text) → (r ≡ known_told k o text) × (n ≡ known_shown k o text)
  unfolding known_told known_shown
  known_counted h p = let short = lt-ltb (length o) k h in (rw short p.0, rw short p.1)

  pub known_whole : {n : List ℕ} {r : ℕ} → k ≤ length o → Wrote o 0 text n r → (record { number = 0; length = r } ≡ known_told k o text) × (n ≡ known_shown k o text)
  unfolding known_told known_shown
  known_whole h p =
      let long = le-ltb (length o) k h in
      (rw (long, p.place, zero-add (length text)), rw long p.bytes)

  pub known_told_lem : k ≤ top → length text ≤ k → (known_told k o text ≡ told o text) × (known_shown k o text ≡ shown o text)
  unfolding known_told known_shown told shown
  known_told_lem w h = go (ltb (length o) k) refl
    where
      go : (b : Bool) → ltb (length o) k ≡ b → (known_told k o text ≡ told o text) × (known_shown k o text ≡ shown o text)
      go true e = (rw e, rw e)
      go false e =
          let long = ltb-false (length o) k e in
          let fits = le-ltb (length o) (length text) (omega arith) in
          let small : min (length text) top ≡ length text = omega arith in
          (rw (e, fits, small), rw (e, fits) (sets-eq text o 0 (omega arith) ∙ simp zero-add))
