-- Laws of a whole plan: the parts that `plan_lines` is read in, and what a load tells of it. Assumes nothing.
--   count_in codes_in starts_in ends_in   what is left to read behind `plan=1`, `behaviours=`, the codes and the starts
--   end_none end_some ends                a text of which nothing, or something, is left; both, as rules
--   ended                                 the end of a text, of what was read before
--   err_read load_long load_stop load_placed load_misplaced   what a load tells
use mathlib.Core.List.{List, [], ◌∷◌}
use mathlib.Core.Path.{◌≡◌, refl, sym, ap, ◌∙◌}
use mathlib.Core.Logic.{⊎_elim}
use Prim.Native.Nat.{ℕ, zero, suc, ◌≤◌, ◌<◌}
use Prim.Native.Char.{code}
use native.Mathlib.Nat.{eq-or-lt_of_le}
use native.Mathlib.Omega.{arith}
use borrow.Author.Tests.{ne_eqb, lt-ltb, le-ltb}
use Rattle.std.specs.Prelude.{Option, None, Some, Result, Ok, Err, IsErrAnd}
use lib.ListN.{length}
use Rattle.node.specs.declared.Node.{Node}
use Rattle.node.specs.declared.Op.{Op}
use Rattle.rules.specs.Behaviours.{Instruction}
use Rattle.rules.specs.Nodes.{code as code_of, behaviours_of}
use Rattle.behaviours.specs.Codes.{code_in, codes_in as codes_of}
use Rattle.text.specs.Numbers.{malformed}
use Rattle.text.specs.Parts.{line_then, lines_of}
use Rattle.text.proofs.Parts.{lines_at, lines_none, lines_rest, place_inside}
use Rattle.placement.specs.Misplaced.{first_code, line_told, misplaced_from}
use Rattle.plan_line.specs.Lines.{Start, behaviours_key, count_line}
use Rattle.plan.specs.declared.fault.Refused.{Refused}
use Rattle.plan.specs.declared.loading.Codes.{Codes}
use Rattle.plan.specs.Faults.{fault_number}
use Rattle.plan.specs.Rests.{mapped, told, read_told}
use Rattle.plan.specs.Plans.{Plan, text_too_long, ill_placed, more, code_lines, start_lines, plan_lines, node_of, misplaced, refused_load, checked}
use Rattle.plan.specs.Plans.{loaded_from, load_of}
use Rattle.plan.specs.Reading.{Left, Read, bad, good, on_line, then_on, times, nothing_in, end_of}
use Rattle.plan.proofs.Loops.{mapped_bad, mapped_good}

abbrev pub ends_in : List (List Op) → List Start → Left → Read Plan
ends_in codes starts l = end_of (record { codes = codes; starts = starts }) l

abbrev pub starts_in : ℕ → List (List Op) → Left → Read Plan
starts_in c codes l = then_on (start_lines c l) (ends_in codes)

abbrev pub codes_in : ℕ → Left → Read Plan
codes_in c l = then_on (times c (more (code_lines c)) [] l) (starts_in c)

abbrev pub count_in : ℕ → Left → Read Plan
count_in x l = then_on (on_line (count_line behaviours_key 1 8) l) codes_in

-- the end of a text, whatever was read before
end_mapped : {A B : Type 0} (f : A → B) (a : A) (l : Left) → end_of (f a) l ≡ mapped f (end_of a l)
unfolding end_of mapped
end_mapped f a l = go l.text.whole l.text.rest
  where
    go : (ls : List (List ℕ)) (rest : List ℕ) → nothing_in (f a) l ls rest ≡ mapped f (nothing_in a l ls rest)
    go [] [] = refl
    go [] (b ∷ rest) = refl
    go (line ∷ ls) rest = refl

-- a text of which nothing, or something, is left
pub end_none : (s : List ℕ) (n : ℕ) → length s ≡ 0 → ◌≡◌ {A = Read ℕ} (good 1 (record { text = lines_of s; first = n })) (end_of 1 (record { text = lines_of s; first = n }))
unfolding end_of
end_none s n e = rw (lines_none {at = 0} s (omega (arith, e)))

pub end_some : (s : List ℕ) (n : ℕ) → (length s ≡ 0 → ⊥) → bad malformed n ≡ end_of {A = ℕ} 1 (record { text = lines_of s; first = n })
unfolding end_of line_then
end_some [] n h = absurd (h refl)
end_some (b ∷ s) n h =
    ⊎_elim (λ all. rw (lines_rest (b ∷ s) {at = 0} (omega arith) refl (omega arith)))
    (λ more. rw (lines_at (b ∷ s) {at = 0} (omega arith) refl more)) (eq-or-lt_of_le (place_inside (code "\n") (b ∷ s) {at = 0} (omega arith) refl))

-- what `end` told, of what was read before
told_mapped : {B C : Type 0} (r : Result C Refused) (l : Left) (b : B) → told (λ (x : C). b) r l ≡ mapped (λ (n : ℕ). b) (told {B = ℕ} (λ x. 1) r l)
unfolding mapped
told_mapped (Ok x) l b = refl
told_mapped (Err x) l b = refl

pub ended : {A B C : Type 0} (r : Result C Refused) (l : Left) → told {B = ℕ} (λ x. 1) r l ≡ end_of 1 l → (F : A → B) (a : A) {b : B} → b ≡ F a
    → told (λ (x : C). b) r l ≡ mapped F (end_of a l)
ended {B = B} r l h F a {b} e =
    told_mapped r l b ∙ ap (mapped (λ (n : ℕ). b)) h ∙ sym (end_mapped (λ (n : ℕ). b) 1 l) ∙ ap (λ (y : B). end_of y l) e ∙ end_mapped F a l

-- ---- what a load tells

codes_of_lem : (n : Node) → codes_of n.count n.lens n.ops ≡ behaviours_of n
unfolding codes_of code_in behaviours_of code_of
codes_of_lem n = refl

-- a refusal that a `?` hands on
pub err_read : (r : Result Codes Refused) (x : Refused) → IsErrAnd r (λ y. y ≡ x) → read_told r ≡ refused_load (fault_number x.fault) x.line
err_read (Ok n) x h = absurd h
err_read (Err y) x h = ap (λ (e : Refused). refused_load (fault_number e.fault) e.line) h

-- the line that the walk for rule 14 told
some_line : (n : ℕ) {line : ℕ} → line_told n ≡ Some line → (n ≡ line) × (line ≡ 0 → ⊥)
some_line zero e = cc
some_line (suc n) e = (cc, λ z. let no : ⊥ = cc in no)

no_line : (n : ℕ) → line_told n ≡ None → n ≡ 0
no_line zero e = refl
no_line (suc n) e = cc

module _ (s : List ℕ) where
  pub load_long : 16384 < length s → refused_load text_too_long 0 ≡ load_of s
  unfolding load_of
  load_long h = rw (lt-ltb 16384 (length s) h)

  module _ (short : length s ≤ 16384) where
    load_short : load_of s ≡ loaded_from (plan_lines (record { text = lines_of s; first = 1 }))
    unfolding load_of
    load_short = rw (le-ltb 16384 (length s) short)

    pub load_stop : {k n : ℕ} → bad k n ≡ mapped node_of (plan_lines (record { text = lines_of s; first = 1 })) → refused_load k n ≡ load_of s
    load_stop q = sym (load_short ∙ ap loaded_from (mapped_bad node_of _ q))

    module _ {node : Node} {l : Left} (q : good node l ≡ mapped node_of (plan_lines (record { text = lines_of s; first = 1 })))
        {told : Option ℕ} (at : told ≡ line_told (misplaced_from first_code (codes_of node.count node.lens node.ops))) where
      load_checked : (p : Plan) × (node ≡ node_of p) × (load_of s ≡ checked p) × (told ≡ line_told (misplaced (node_of p)))
      unfolding misplaced
      load_checked =
          let was = mapped_good node_of _ q in
          let is = at ∙ ap (λ (bs : List (List Instruction)). line_told (misplaced_from first_code bs)) (codes_of_lem node) in
          (was.0, was.2, load_short ∙ ap loaded_from was.1, is ∙ ap (λ (n : Node). line_told (misplaced_from first_code (behaviours_of n))) was.2)

      pub load_misplaced : {line : ℕ} → told ≡ Some line → refused_load ill_placed line ≡ load_of s
      unfolding checked
      load_misplaced {line} h =
          let w = load_checked in
          let is = some_line (misplaced (node_of w.0)) (sym w.3 ∙ h) in
          sym (w.2 ∙ rw (is.0, ne_eqb line 0 is.1))

      pub load_placed : told ≡ None → record { number = 0; line = 0; node = node } ≡ load_of s
      unfolding checked
      load_placed h =
          let w = load_checked in
          sym (w.2 ∙ rw (no_line (misplaced (node_of w.0)) (sym w.3 ∙ h), ← w.1))

pub ruleset ends = (end_none, end_some)
