-- Laws of the fields of a line. Assumes nothing.
--   fields_at fields_end   the fields from a place on
--   split_lem fields_lem   the parts and the fields, as the library's `split` gives them
--   part_or                one of them, or the empty one
use mathlib.Core.Bool.{Bool, true, false, cond}
use mathlib.Core.List.{List, [], ◌∷◌}
use mathlib.Core.Path.{◌≡◌, refl, ap}
use Prim.Native.Nat.{ℕ, zero, suc, ◌+◌, ◌-◌, ◌≤◌, ◌<◌}
use Prim.Native.Char.{code}
use lib.Dec.{eqb}
use lib.ListN.{length, take, drop, get_or}
use Rattle.std.specs.Borrow.{Bor}
use Rattle.std.specs.List.{slice_split, onto_first}
use Rattle.std.specs.Option.{option_map, unwrap_or}
use Rattle.std.specs.Prelude.{Option, Some, None, slice_get}
use Rattle.text.specs.Parts.{place_from, in_front, split, fields_of}
use Rattle.text.proofs.Parts.{split_at, split_end}

module _ (s : List ℕ) {at e : ℕ} (w : at ≤ length s) (h : e ≡ place_from (code ",") at s) where
  pub fields_at : e < length s → fields_of (drop at s) ≡ take (e - at) (drop at s) ∷ fields_of (drop (e + 1) s)
  unfolding fields_of
  fields_at l = split_at (code ",") s w h l

  pub fields_end : length s ≤ e → fields_of (drop at s) ≡ drop at s ∷ []
  unfolding fields_of
  fields_end l = split_end (code ",") s w h l

-- ---- the parts, as the library's `split` gives them
pub split_lem : (c : ℕ) (l : List ℕ) → slice_split (λ b. eqb b c) l ≡ split c l
unfolding split in_front
split_lem c [] = refl
split_lem c (b ∷ l) = go (eqb b c) (slice_split (λ a. eqb a c) l) (split c l) (split_lem c l)
  where
    go : (t : Bool) (ps qs : List (List ℕ)) → ps ≡ qs → cond t ([] ∷ ps) (onto_first b ps) ≡ in_front t b qs
    go true ps qs e = ap (λ (r : List (List ℕ)). [] ∷ r) e
    go false [] qs e = rw (← e) refl
    go false (p ∷ ps) qs e = rw (← e) refl

pub fields_lem : (line : List ℕ) → slice_split (λ b. eqb b (code ",")) line ≡ fields_of line
unfolding fields_of
fields_lem line = split_lem (code ",") line

-- the part of a number, or the empty one
pub part_or : (ps : List (List ℕ)) (k : ℕ) (r : Option (Bor (List ℕ))) (d : Bor (List ℕ)) → option_map (λ x. x.now) r ≡ slice_get ps k → d.now ≡ []
    → (unwrap_or r d).now ≡ get_or ps k []
part_or [] k None d e h = h
part_or [] k (Some x) d e h = let no : ⊥ = cc in absurd no
part_or (p ∷ ps) zero None d e h = let no : ⊥ = cc in absurd no
part_or (p ∷ ps) zero (Some x) d e h = cc
part_or (p ∷ ps) (suc k) r d e h = part_or ps k r d e h
