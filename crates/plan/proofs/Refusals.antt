-- What is told of a refused text: a number from 1 to 14 and a line of at most 16,385, one past the last that a text can have.
-- Assumes nothing.
--   Bounded m r    a refusal's number is 1 to 14 and its line at most m; behind a result at most m lines are counted
--   plan_bounded   so for the lines of a plan
--   load_told      so for every load
use mathlib.Core.Bool.{Bool, true, false, So, ◌&&◌, cond}
use mathlib.Core.List.{List, [], ◌∷◌, map}
use mathlib.Core.Path.{◌≡◌, refl}
use Prim.Native.Nat.{ℕ, zero, suc, ◌+◌, ◌≤◌}
use native.Mathlib.Omega.{arith}
use borrow.Author.Tests.{ltb-false}
use lib.Dec.{eqb, leb, ltb}
use lib.ListN.{length, length-map}
use Rattle.node.specs.declared.Op.{Op}
use Rattle.node.specs.Lists.{all_of}
use Rattle.rules.proofs.All.{both, parts}
use Rattle.rules.proofs.Told.{Told}
use Rattle.rules.specs.Answers.{Answer, refused, done}
use Rattle.rules.specs.Behaviours.{Instruction, in_range, instruction}
use Rattle.text.proofs.Parts.{lines_few}
use Rattle.text.specs.Parts.{Lines, lines_of}
use Rattle.placement.proofs.Placed.{misplaced_most}
use Rattle.placement.specs.Misplaced.{first_code}
use Rattle.plan_line.proofs.Refusals.{Low, header_told_lem, count_told_lem, op_told_lem, start_told_lem}
use Rattle.plan_line.specs.Lines.{behaviours_key, code_key, starts_key, header_line, count_line, op_line, start_line}
use Rattle.plan.specs.Plans.{Loaded, Plan, text_too_long, ill_placed, before_first, last_from, more, code_lines, start_more, start_lines, plan_lines}
use Rattle.plan.specs.Plans.{misplaced, node_of, refused_load, checked, loaded_from, load_of}
use Rattle.plan.specs.Reading.{Left, Read, bad, good, judged, first_of, on_line, then_on, times, nothing_in, end_of}
use Rattle.plan.proofs.Behaviours.{behaviours_of_lem}
use Rattle.plan.proofs.Kept.{code_kept, PlanKept, plan_kept}
use Rattle.plan.proofs.Whole.{count_in, codes_in, starts_in, ends_in}

-- the line behind the last whole one
abbrev past : Left → ℕ
past l = l.first + length l.text.whole

abbrev pub Bounded : {A : Type 0} → ℕ → Read A → Type 0
Bounded m (bad k n) = (1 ≤ k) × (k ≤ ill_placed) × (n ≤ m)
Bounded m (good a l) = past l ≤ m

-- ---- reading line by line

module _ (m : ℕ) {A : Type 0} where
  judged_bounded : (x : Answer A) (n : ℕ) (ls : Lines) → Told Low x → n + 1 + length ls.whole ≤ m → Bounded m (judged x n ls)
  judged_bounded (refused k) n ls t h = (t.0, omega (arith, t.1), omega arith)
  judged_bounded (done a) n ls t h = h

  first_bounded : (f : List ℕ → Answer A) → ((line : List ℕ) → Told Low (f line)) → (n : ℕ) (ls : List (List ℕ)) (rest : List ℕ) → n + length ls ≤ m → Bounded m (first_of f n ls rest)
  first_bounded f t n [] rest h = (omega arith, omega arith, omega arith)
  first_bounded f t n (line ∷ ls) rest h = judged_bounded (f line) n (record { whole = ls; rest = rest }) (t line) (omega arith)

  line_bounded : (f : List ℕ → Answer A) → ((line : List ℕ) → Told Low (f line)) → (l : Left) → past l ≤ m → Bounded m (on_line f l)
  unfolding on_line
  line_bounded f t l h = first_bounded f t l.first l.text.whole l.text.rest h

  then_bounded : {B : Type 0} (r : Read A) (f : A → Left → Read B) → Bounded m r → ((a : A) (l : Left) → past l ≤ m → Bounded m (f a l)) → Bounded m (then_on r f)
  then_bounded (bad k n) f h g = h
  then_bounded (good a l) f h g = g a l h

  end_bounded : (a : A) (l : Left) → past l ≤ m → Bounded m (end_of a l)
  unfolding end_of
  end_bounded a l h = go l.text.whole l.text.rest
    where
      go : (ls : List (List ℕ)) (rest : List ℕ) → Bounded m (nothing_in a l ls rest)
      go [] [] = h
      go [] (b ∷ rest) = (omega arith, omega arith, omega arith)
      go (line ∷ ls) rest = (omega arith, omega arith, omega arith)

module _ (m : ℕ) {A : Type 0} where
  times_bounded : (n : ℕ) (f : A → Left → Read A) → ((a : A) (l : Left) → past l ≤ m → Bounded m (f a l)) → (a : A) (l : Left) → past l ≤ m → Bounded m (times n f a l)
  unfolding times
  times_bounded zero f g a l h = h
  times_bounded (suc n) f g a l h = then_bounded m (f a l) (times n f) (g a l h) (times_bounded n f g)

  more_bounded : (f : Left → Read A) → ((l : Left) → past l ≤ m → Bounded m (f l)) → (xs : List A) (l : Left) → past l ≤ m → Bounded m (more f xs l)
  more_bounded f g xs l h = then_bounded m (f l) _ (g l h) (λ x k e. e)

-- ---- the lines of a plan

module _ (m : ℕ) where
  code_bounded : (c : ℕ) (l : Left) → past l ≤ m → Bounded m (code_lines c l)
  unfolding code_lines
  code_bounded c l h =
      then_bounded m (on_line (count_line code_key 1 32) l) _ (line_bounded m (count_line code_key 1 32) (count_told_lem code_key 1 32) l h)
      (λ n k e. times_bounded m n (more (on_line (op_line c n))) (more_bounded m (on_line (op_line c n)) (line_bounded m (op_line c n) (op_told_lem c n))) [] k e)

  starts_bounded : (c : ℕ) (l : Left) → past l ≤ m → Bounded m (start_lines c l)
  unfolding start_lines
  starts_bounded c l h =
      then_bounded m (on_line (count_line starts_key 1 16) l) _ (line_bounded m (count_line starts_key 1 16) (count_told_lem starts_key 1 16) l h)
      (λ n k e. times_bounded m n (start_more c)
      (λ starts. let last = last_from before_first starts in more_bounded m (on_line (start_line c last)) (line_bounded m (start_line c last) (start_told_lem c last)) starts) [] k e)

  pub plan_bounded : (l : Left) → past l ≤ m → Bounded m (plan_lines l)
  unfolding plan_lines
  plan_bounded l h =
      then_bounded m (on_line header_line l) count_in (line_bounded m header_line header_told_lem l h) (λ x l h.
      then_bounded m (on_line (count_line behaviours_key 1 8) l) codes_in (line_bounded m (count_line behaviours_key 1 8) (count_told_lem behaviours_key 1 8) l h) (λ c l h.
      then_bounded m (times c (more (code_lines c)) [] l) (starts_in c) (times_bounded m c (more (code_lines c)) (more_bounded m (code_lines c) (code_bounded c)) [] l h) (λ codes l h.
      then_bounded m (start_lines c l) (ends_in codes) (starts_bounded c l h) (λ starts l h.
      end_bounded m (record { codes = codes; starts = starts }) l h))))

-- ---- 14

codes_short : (c : ℕ) (codes : List (List Op)) → So (all_of (code_kept c) codes) → So (all_of (λ (code : List Instruction). leb (length code) 32) (map (map instruction) codes))
codes_short c [] h = refl
codes_short c (code ∷ codes) h =
    let a = parts (code_kept c code) (all_of (code_kept c) codes) h in
    let b = parts (leb 1 (length code) && leb (length code) 32) (all_of (λ (o : Op). in_range c (length code) (instruction o)) code) a.0 in
    let short : So (leb (length (map instruction code)) 32) = rw (length-map code instruction) (parts (leb 1 (length code)) (leb (length code) 32) b.0).1 in
    both short (codes_short c codes a.1)

-- behind `plan=1` and `behaviours=`, at most eight behaviours with a line `code=` and 32 ops
misplaced_low : (p : Plan) → PlanKept p → misplaced (node_of p) ≤ 16385
unfolding misplaced
misplaced_low p k =
    let is = behaviours_of_lem p k in
    let size : length (map (map instruction) p.codes) ≡ length p.codes = length-map p.codes (map instruction) in
    rw is (omega (arith, misplaced_most first_code (map (map instruction) p.codes) (codes_short (length p.codes) p.codes k.codes), size, k.most))

-- ---- a load

abbrev LoadLow : Loaded → Type 0
LoadLow r = (r.number ≤ ill_placed) × (r.line ≤ 16385)

refused_low : (k n : ℕ) → k ≤ ill_placed → n ≤ 16385 → LoadLow (refused_load k n)
unfolding refused_load
refused_low k n h g = (h, g)

checked_low : (p : Plan) → PlanKept p → LoadLow (checked p)
unfolding checked
checked_low p k = go (eqb (misplaced (node_of p)) 0)
  where
    go : (t : Bool) → LoadLow (cond t (record { number = 0; line = 0; node = node_of p }) (refused_load ill_placed (misplaced (node_of p))))
    go true = (omega arith, omega arith)
    go false = refused_low ill_placed (misplaced (node_of p)) (omega arith) (misplaced_low p k)

read_low : (l : Left) (r : Read Plan) → plan_lines l ≡ r → Bounded 16385 r → LoadLow (loaded_from r)
read_low l (bad k n) e h = refused_low k n h.1 h.2
read_low l (good p rest) e h = checked_low p (plan_kept l e)

pub load_told : (text : List ℕ) → ((load_of text).number ≤ ill_placed) × ((load_of text).line ≤ 16385)
unfolding load_of
load_told text = go (ltb 16384 (length text)) refl
  where
    all : Left
    all = record { text = lines_of text; first = 1 }

    go : (b : Bool) → ltb 16384 (length text) ≡ b → LoadLow (cond b (refused_load text_too_long 0) (loaded_from (plan_lines (record { text = lines_of text; first = 1 }))))
    go true e = refused_low text_too_long 0 (omega arith) (omega arith)
    go false e = read_low all (plan_lines all) refl (plan_bounded 16385 all (omega (arith, lines_few text, ltb-false 16384 (length text) e)))
