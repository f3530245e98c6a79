-- A plan that is read keeps its limits: what a line gives is in range, and there are as many lines as their counts say. Assumes nothing.
--   code_kept c code  start_kept c s   a code and a start of a plan with c behaviours keep their limits
--   PlanKept p                       so does the whole plan p
--   plan_kept                        a plan that is read does
--   line_good times_good end_good    what one line, some readings and the end were read of, and what they left
use mathlib.Core.Bool.{Bool, So, ◌&&◌}
use mathlib.Core.List.{List, [], ◌∷◌, ◌++◌}
use mathlib.Core.Path.{◌≡◌, refl, sym, ap, subst}
use Prim.Native.Nat.{ℕ, zero, suc, ◌+◌, ◌≤◌}
use native.Mathlib.Omega.{arith}
use borrow.Author.Tests.{le-leb}
use lib.Dec.{leb}
use lib.ListN.{length, length-append}
use Rattle.node.specs.declared.Op.{Op}
use Rattle.node.specs.declared.ProcessNumber.{ProcessNumber}
use Rattle.node.specs.Lists.{all_of}
use Rattle.rules.specs.Answers.{Answer, refused, done}
use Rattle.rules.specs.Behaviours.{in_range, instruction}
use Rattle.node.specs.Values.{is_number}
use Rattle.rules.proofs.All.{both, all_of_join}
use Rattle.behaviours.proofs.Operands.{in_range_by}
use Rattle.text.specs.Parts.{Lines, line_then}
use Rattle.plan_line.specs.Lines.{Start, behaviours_key, code_key, starts_key, header_line, count_told, count_line, op_told, op_line, start_told, start_line}
use Rattle.plan_line.proofs.InRange.{op_kept}
use Rattle.plan_line.proofs.Ranges.{count_kept, start_kept_lem}
use Rattle.plan_line.proofs.Told.{answered_done}
use Rattle.plan.specs.Plans.{Plan, before_first, last_from, more, start_more, code_lines, start_lines, plan_lines}
use Rattle.plan.specs.Reading.{Left, Read, bad, good, judged, first_of, on_line, then_on, times, nothing_in, end_of}
use Rattle.plan.proofs.Whole.{count_in, codes_in, starts_in, ends_in}

abbrev pub code_kept : ℕ → List Op → Bool
code_kept c code = leb 1 (length code) && leb (length code) 32 && all_of (λ (o : Op). in_range c (length code) (instruction o)) code

abbrev pub start_kept : ℕ → Start → Bool
start_kept c s = is_number s.process.0 && (leb 1 s.behaviour.0 && leb s.behaviour.0 c)

pub record PlanKept (p : Plan) : Type 0 where
  pub least : 1 ≤ length p.codes
  pub most : length p.codes ≤ 8
  pub codes : So (all_of (code_kept (length p.codes)) p.codes)
  pub starts : So (all_of (start_kept (length p.codes)) p.starts)

-- ---- what was read, where a result is

pub then_good : {A B : Type 0} (r : Read A) (f : A → Left → Read B) {b : B} {l : Left} → then_on r f ≡ good b l → (a : A) × (k : Left) × (r ≡ good a k) × (f a k ≡ good b l)
then_good (bad k n) f e = let z : ◌≡◌ {A = ℕ} 0 1 = cc in let no : ⊥ = omega arith in absurd no
then_good (good a k) f e = (a, k, refl, e)

module _ {A : Type 0} where
  judged_good : (x : Answer A) (n : ℕ) (ls : Lines) {a : A} {k : Left} → judged x n ls ≡ good a k → (x ≡ done a) × (ls ≡ k.text)
  judged_good (refused j) n ls e = let z : ◌≡◌ {A = ℕ} 0 1 = cc in let no : ⊥ = omega arith in absurd no
  judged_good (done b) n ls {k = k} e =
      let left : record { text = ls; first = n + 1 } ≡ k = cc in
      (cc, ap (λ (r : Left). r.text) left)

  first_good : (f : List ℕ → Answer A) (n : ℕ) (ls : List (List ℕ)) (rest : List ℕ) {a : A} {k : Left} → first_of f n ls rest ≡ good a k
      → (line : List ℕ) × (f line ≡ done a) × (record { whole = ls; rest = rest } ≡ line_then line k.text)
  unfolding line_then
  first_good f n [] rest e = let z : ◌≡◌ {A = ℕ} 0 1 = cc in let no : ⊥ = omega arith in absurd no
  first_good f n (line ∷ ls) rest e =
      let w = judged_good (f line) n (record { whole = ls; rest = rest }) e in
      (line, w.0, ap (line_then line) w.1)

  pub line_good : (f : List ℕ → Answer A) (l : Left) {a : A} {k : Left} → on_line f l ≡ good a k → (line : List ℕ) × (f line ≡ done a) × (l.text ≡ line_then line k.text)
  unfolding on_line
  line_good f l e = first_good f l.first l.text.whole l.text.rest e

  -- as many as their count; what each reading keeps of what was read and of what is left, all of them keep
  module _ (f : List A → Left → Read A) (Q : List A → Left → Type 0)
      (keeps : (xs : List A) (l : Left) (x : A) (k : Left) → f xs l ≡ good x k → Q xs l → Q (xs ++ (x ∷ [])) k) where
    times_from : (n : ℕ) (xs : List A) (l : Left) {zs : List A} {k : Left} → times n (λ (ys : List A). more (f ys) ys) xs l ≡ good zs k → Q xs l → (length zs ≡ length xs + n) × Q zs k
    unfolding times
    times_from zero xs l {zs} {k} e h =
        let same : xs ≡ zs = cc in
        let left : l ≡ k = cc in
        (omega (arith, ap length same), subst (Q zs) left (subst (λ (ys : List A). Q ys l) same h))
    times_from (suc n) xs l {zs} {k} e h =
        let w = then_good (more (f xs) xs l) (times n (λ (ys : List A). more (f ys) ys)) e in
        let u = then_good (f xs l) (λ (x : A) (r : Left). good (xs ++ (x ∷ [])) r) w.2 in
        let same : xs ++ (u.0 ∷ []) ≡ w.0 = cc in
        let left : u.1 ≡ w.1 = cc in
        let one = keeps xs l u.0 u.1 u.2 h in
        let next = times_from n w.0 w.1 w.3 (subst (Q w.0) left (subst (λ (ys : List A). Q ys u.1) same one)) in
        (omega (arith, next.0, ap length same, length-append xs (u.0 ∷ [])), next.1)

    pub times_good : (n : ℕ) (l : Left) {zs : List A} {k : Left} → times n (λ (ys : List A). more (f ys) ys) [] l ≡ good zs k → Q [] l → (length zs ≡ n) × Q zs k
    times_good n l e h = let w = times_from n [] l e h in (omega (arith, w.0), w.1)

  -- each of them keeps what f keeps
  module _ (q : A → Bool) (f : List A → Left → Read A) (kept : (ys : List A) (l : Left) (x : A) (k : Left) → f ys l ≡ good x k → So (q x)) where
    times_kept : (n : ℕ) (l : Left) {zs : List A} {k : Left} → times n (λ (ys : List A). more (f ys) ys) [] l ≡ good zs k → (length zs ≡ n) × So (all_of q zs)
    times_kept n l e = times_good f (λ xs r. So (all_of q xs)) (λ xs r x k g h. all_of_join q xs (x ∷ []) h (both (kept xs r x k g) refl)) n l e refl

-- ---- lines, codes and starts

pub count_read : (key : List ℕ) (low high : ℕ) (l : Left) {n : ℕ} {k : Left} → on_line (count_line key low high) l ≡ good n k → (low ≤ n) × (n ≤ high)
unfolding count_line
count_read key low high l {n} e =
    let w = line_good (count_line key low high) l e in
    let x = count_told key low high w.0 in
    let a = answered_done x.refusal x.number n w.1 in
    let kept = count_kept key low high w.0 in
    (subst (λ (m : ℕ). low ≤ m) a.1 (kept.least a.0), subst (λ (m : ℕ). m ≤ high) a.1 kept.most)

op_read : (c n : ℕ) (l : Left) {o : Op} {k : Left} → on_line (op_line c n) l ≡ good o k → So (in_range c n (instruction o))
unfolding op_line
op_read c n l {o} e =
    let w = line_good (op_line c n) l e in
    let x = op_told c n w.0 in
    let a = answered_done x.refusal x.op o w.1 in
    let kept = op_kept c n w.0 a.0 in
    subst (λ (y : Op). So (in_range c n (instruction y))) a.1 (rw (← in_range_by x.op c n kept.0) kept.1)

start_read : (c : ℕ) (last : ProcessNumber) (l : Left) {s : Start} {k : Left} → on_line (start_line c last) l ≡ good s k → So (start_kept c s)
unfolding start_line is_number
start_read c last l {s} e =
    let w = line_good (start_line c last) l e in
    let x = start_told c last w.0 in
    let a = answered_done x.refusal x s w.1 in
    let kept = start_kept_lem c last w.0 in
    subst (λ (y : Start). So (start_kept c y)) a.1
    (both (both (le-leb 1 x.process.0 (kept.first a.0)) (le-leb x.process.0 16 kept.process))
    (both (le-leb 1 x.behaviour.0 (kept.least a.0)) (le-leb x.behaviour.0 c (kept.most a.0))))

code_read : (c : ℕ) (l : Left) {code : List Op} {k : Left} → code_lines c l ≡ good code k → So (code_kept c code)
unfolding code_lines
code_read c l {code} e =
    let w = then_good (on_line (count_line code_key 1 32) l) (λ (n : ℕ) (r : Left). times n (more (on_line (op_line c n))) [] r) e in
    let n = w.0 in
    let size = count_read code_key 1 32 l w.2 in
    let t = times_kept (λ (o : Op). in_range c n (instruction o)) (λ (ys : List Op). on_line (op_line c n)) (λ ys r x k. op_read c n r) n w.1 w.3 in
    let is : length code ≡ n = t.0 in
    both (both (le-leb 1 (length code) (omega (arith, size.0))) (le-leb (length code) 32 (omega (arith, size.1)))) (subst (λ (m : ℕ). So (all_of (λ (o : Op). in_range c m (instruction o)) code))
    (sym is) t.1)

starts_read : (c : ℕ) (l : Left) {starts : List Start} {k : Left} → start_lines c l ≡ good starts k → So (all_of (start_kept c) starts)
unfolding start_lines
starts_read c l e =
    let w = then_good (on_line (count_line starts_key 1 16) l) (λ (n : ℕ) (r : Left). times n (start_more c) [] r) e in
    (times_kept (start_kept c) (λ (ys : List Start). on_line (start_line c (last_from before_first ys))) (λ ys r x k. start_read c (last_from before_first ys) r) w.0 w.1 w.3).1

pub end_good : {A : Type 0} (a : A) (l : Left) (ls : List (List ℕ)) (rest : List ℕ) {b : A} {k : Left} → nothing_in a l ls rest ≡ good b k → (a ≡ b) × (ls ≡ []) × (rest ≡ [])
end_good a l [] [] e = (cc, refl, refl)
end_good a l [] (x ∷ rest) e = let z : ◌≡◌ {A = ℕ} 0 1 = cc in let no : ⊥ = omega arith in absurd no
end_good a l (line ∷ ls) rest e = let z : ◌≡◌ {A = ℕ} 0 1 = cc in let no : ⊥ = omega arith in absurd no

pub plan_kept : (l : Left) {p : Plan} {k : Left} → plan_lines l ≡ good p k → PlanKept p
unfolding plan_lines end_of
plan_kept l {p} e =
    let w = then_good (on_line header_line l) count_in e in
    let x = then_good (on_line (count_line behaviours_key 1 8) w.1) codes_in w.3 in
    let c = x.0 in
    let y = then_good (times c (more (code_lines c)) [] x.1) (starts_in c) x.3 in
    let z = then_good (start_lines c y.1) (ends_in y.0) y.3 in
    let is : record { codes = y.0; starts = z.0 } ≡ p = (end_good _ z.1 z.1.text.whole z.1.text.rest z.3).0 in
    let size = count_read behaviours_key 1 8 w.1 x.2 in
    let t = times_kept (code_kept c) (λ (ys : List (List Op)). code_lines c) (λ ys r code k. code_read c r) c x.1 y.2 in
    let many : length y.0 ≡ c = t.0 in
    subst PlanKept is (record {
      least = omega (arith, size.0);
      most = omega (arith, size.1);
      codes = subst (λ (m : ℕ). So (all_of (code_kept m) y.0)) (sym many) t.1;
      starts = subst (λ (m : ℕ). So (all_of (start_kept m) z.0)) (sym many) (starts_read c y.1 z.2);
    })
