-- The starts of the started node are those of the plan. Assumes nothing.
--   as_start s       a start that was read, without its refusal
--   UnbornFrom k ps  from place k on, all of ps are unborn
--   live_set         a process that starts there is the last of the live ones
--   starts_live      starts that rise are the live ones behind those that were live
--   row_starts       the starts of a row are those that it was made of
--   starts_of        the law
use mathlib.Core.Bool.{So, ◌&&◌}
use mathlib.Core.List.{List, [], ◌∷◌, ◌++◌, map, append_assoc, append-nil}
use mathlib.Core.Path.{◌≡◌, refl, sym, ap, ◌∙◌}
use Prim.Native.Nat.{ℕ, zero, suc, ◌+◌, ◌-◌, ◌≤◌, ◌<◌, zero-le}
use native.Mathlib.Nat.{le_of_suc-le-suc}
use native.Mathlib.Omega.{arith}
use borrow.Author.Tests.{leb-true, ltb-true}
use lib.Dec.{leb, ltb}
use lib.ListN.{drop, get_or, length, length-set, get_or-eq_default, replicate, set}
use lib.Seq.{get_or-set_other, length-sets, sets, sets-eq, take-append_seam}
use Rattle.node.specs.declared.BehaviourNumber.{BehaviourNumber}
use Rattle.node.specs.declared.Node.{Node}
use Rattle.node.specs.declared.Process.{Process}
use Rattle.node.specs.declared.Start.{Start}
use Rattle.node.specs.declared.Value.{Value}
use Rattle.node.specs.Processes.{fresh, unborn}
use Rattle.node.specs.Starts.{live_from, no_start, node_starts, row_of, start_if, start_of, starts_in}
use Rattle.node.specs.Values.{int_zero}
use Rattle.node.proofs.Lists.{firsts_take}
use Rattle.rules.proofs.All.{parts}
use Rattle.plan_line.specs.Lines.{Start as ReadStart}
use Rattle.plan.specs.Plans.{empty_node, node_of, Plan, with_code, with_each, with_start}
use Rattle.plan.proofs.Sound.{each_keeps}
use Rattle.plan_writer.specs.Answers.{start_fits, starts_rise, starts_sound}

abbrev pub as_start : ReadStart → Start
as_start s = record { process = s.process; behaviour = s.behaviour }

-- ---- live processes

abbrev UnbornFrom : ℕ → List Process → Type 0
UnbornFrom k ps = (j : ℕ) → k ≤ j → get_or ps j unborn ≡ unborn

live_none : (i : ℕ) (ps : List Process) → UnbornFrom 0 ps → live_from i ps ≡ []
live_none i [] h = refl
live_none i (p ∷ ps) h = rw (h 0 zero-le) (live_none (i + 1) ps (λ j l. h (suc j) zero-le))

none_born : (m j : ℕ) → get_or (replicate m unborn) j unborn ≡ unborn
none_born zero j = get_or-eq_default [] unborn {n = j} zero-le
none_born (suc m) zero = refl
none_born (suc m) (suc j) = none_born m j

module _ (b : BehaviourNumber) (v : Value) where
  live_set : (i : ℕ) (ps : List Process) (k : ℕ) → k < length ps → UnbornFrom k ps → live_from i (set ps k (fresh b v)) ≡ live_from i ps ++ (start_of (i + k) (fresh b v) ∷ [])
  live_set i [] k l h = absurd (omega (arith, l))
  live_set i (p ∷ ps) zero l h =
      let e : i + 0 ≡ i = omega arith in
      rw (live_none i (p ∷ ps) h, live_none (i + 1) ps (λ j g. h (suc j) zero-le), e)
  live_set i (p ∷ ps) (suc k) l h =
      let e : i + 1 + k ≡ i + suc k = omega arith in
      let here = start_if p.stage (start_of i p) in
      ap (λ (x : List Start). here ++ x) (live_set (i + 1) ps k (le_of_suc-le-suc l) (λ j g. h (suc j) (omega arith)))
      ∙ sym (append_assoc here (live_from (i + 1) ps) (start_of (i + 1 + k) (fresh b v) ∷ []))
      ∙ ap (λ (j : ℕ). here ++ live_from (i + 1) ps ++ (start_of j (fresh b v) ∷ [])) e

starts_live : (c last : ℕ) (n : Node) (starts : List ReadStart) → length n.processes ≡ 16 → UnbornFrom last n.processes → So (starts_rise c last (map as_start starts))
    → live_from 1 (with_each with_start n starts).processes ≡ live_from 1 n.processes ++ map as_start starts
unfolding starts_rise
starts_live c last n [] size free h = sym (append-nil (live_from 1 n.processes))
starts_live c last n (s ∷ starts) size free h =
    let k = s.process.0 in
    let ps = n.processes in
    let p = fresh s.behaviour int_zero in
    let w = parts (start_fits c last (as_start s)) (starts_rise c k (map as_start starts)) h in
    let x = parts (ltb last k) (leb k 16) (parts (ltb last k && leb k 16) (leb 1 s.behaviour.0 && leb s.behaviour.0 c) w.0).0 in
    let low = ltb-true last k x.0 in
    let high = leb-true k 16 x.1 in
    let e : 1 + (k - 1) ≡ k = omega arith in
    starts_live c k (with_start n s) starts (length-set ps (k - 1) p ∙ size)
    (λ j g. get_or-set_other ps (k - 1) j p unborn (λ q. omega (arith, q, g, low)) ∙ free j (omega arith)) w.1
    ∙ ap (λ (l : List Start). l ++ map as_start starts) (live_set s.behaviour int_zero 1 ps (k - 1) (omega (arith, size)) (λ j g. free j (omega arith)))
    ∙ append_assoc (live_from 1 ps) (start_of (1 + (k - 1)) p ∷ []) (map as_start starts)
    ∙ ap (λ (j : ℕ). live_from 1 ps ++ (start_of j p ∷ map as_start starts)) e

-- ---- the row

row_starts : (l : List Start) → length l ≤ 16 → starts_in (row_of l) ≡ l
row_starts l h =
    let blank = replicate 16 no_start in
    firsts_take no_start (length l) (sets blank 0 l) (omega (arith, h, length-sets blank 0 l))
    ∙ rw (sets-eq l blank 0 (omega (arith, h))) (take-append_seam l (drop (0 + length l) blank))

pub starts_of : (p : Plan) (c : ℕ) → So (starts_sound c (map as_start p.starts)) → starts_in (node_starts (node_of p)) ≡ map as_start p.starts
unfolding node_starts node_of
starts_of p c h =
    let l = map as_start p.starts in
    let coded = with_each with_code empty_node p.codes in
    let none : coded.processes ≡ replicate 16 unborn = each_keeps (λ (n : Node). n.processes) with_code (λ n code. refl) empty_node p.codes in
    let free : UnbornFrom 0 coded.processes = λ j g. ap (λ (ps : List Process). get_or ps j unborn) none ∙ none_born 16 j in
    let w = parts (leb 1 (length l) && leb (length l) 16) (starts_rise c 0 l) h in
    let few = leb-true (length l) 16 (parts (leb 1 (length l)) (leb (length l) 16) w.0).1 in
    let live = starts_live c 0 coded p.starts (ap length none) free w.1 ∙ ap (λ (ps : List Process). live_from 1 ps ++ l) none in
    ap (λ (x : List Start). starts_in (row_of x)) live ∙ row_starts l few
