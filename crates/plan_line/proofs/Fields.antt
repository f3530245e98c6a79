-- Laws of the fields of a line, one behind another. Assumes nothing.
--   end_found               where `find` answers, a field ends
--   behind_first            the first field, and those behind it
--   behind_next behind_none the fields behind a field: one and those behind it, or none
use mathlib.Core.Bool.{Bool, true, false, cond}
use mathlib.Core.List.{List, [], ◌∷◌}
use mathlib.Core.Path.{◌≡◌, refl, sym, ap, ◌∙◌}
use mathlib.Core.Logic.{⊎_elim}
use Prim.Native.Nat.{ℕ, suc, ◌+◌, ◌-◌, ◌≤◌, ◌<◌}
use Prim.Native.Char.{code}
use native.Mathlib.Nat.{eq-or-lt_of_le}
use native.Mathlib.Omega.{arith}
use lib.Dec.{eqb}
use lib.ListN.{length, take, drop}
use lib.Seq.{drop-drop}
use Rattle.text.specs.Parts.{before, place_from, fields_of}
use Rattle.text.proofs.Fields.{fields_at, fields_end}
use Rattle.text.proofs.Parts.{place_from_lem, place_inside, rest_part}
use Rattle.plan_line.specs.Ops.{FieldEnd, behind_field}

before_here : (c : ℕ) (l : List ℕ) → before c (drop (before c l) l) ≡ 0
unfolding before
before_here c [] = refl
before_here c (b ∷ l) = go (eqb b c) refl (before_here c l)
  where
    go : (t : Bool) → eqb b c ≡ t → before c (drop (before c l) l) ≡ 0 → before c (drop (cond t 0 (suc (before c l))) (b ∷ l)) ≡ 0
    go true e ih = rw e
    go false e ih = ih

module _ (s : List ℕ) {at e : ℕ} (w : at ≤ length s) (h : e ≡ place_from (code ",") at s) where
  pub end_found : FieldEnd s e
  end_found =
      let inside = place_inside (code ",") s w h in
      let from : e ≡ at + before (code ",") (drop at s) = h ∙ place_from_lem (code ",") at s w in
      let zero : before (code ",") (drop e s) ≡ 0 =
      ap (λ (k : ℕ). before (code ",") (drop k s)) from ∙ ap (before (code ",")) (sym (drop-drop (before (code ",") (drop at s)) at s)) ∙ before_here (code ",") (drop at s) in
      record { within = inside; here = omega (arith, zero, place_from_lem (code ",") e s inside) }

  -- the field that ends at e is the first from `at` on
  pub behind_first : fields_of (drop at s) ≡ take (e - at) (drop at s) ∷ behind_field e s
  unfolding behind_field
  behind_first =
      let x = end_found in
      ⊎_elim (λ all. fields_end s w h (omega arith) ∙ rw (fields_end s x.within x.here (omega arith), rest_part (code ",") s w h (omega arith)))
      (λ more. fields_at s w h more ∙ rw (fields_at s x.within x.here more)) (eq-or-lt_of_le x.within)

module _ (s : List ℕ) {e : ℕ} (x : FieldEnd s e) where
  pub behind_none : length s ≤ e → behind_field e s ≡ []
  unfolding behind_field
  behind_none l = rw (fields_end s x.within x.here l)

  pub behind_next : {f : ℕ} → e < length s → f ≡ place_from (code ",") (e + 1) s
      → behind_field e s ≡ take (f - (e + 1)) (drop (e + 1) s) ∷ behind_field f s
  unfolding behind_field
  behind_next l h = rw (fields_at s x.within x.here l) (behind_first s (omega arith) h)
