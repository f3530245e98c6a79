-- Laws of a node's starts: its live processes, put into a row one by one. Assumes nothing.
--   live_append   the live ones of two rows of processes, one behind the other
--   live_few      there are no more of them than processes
--   live_next     one process more, in the row
--   live_all      all of them;  live_room  the row has room for each
use mathlib.Core.List.{List, [], ◌∷◌, ◌++◌, append_assoc, append-nil}
use mathlib.Core.Path.{◌≡◌, sym, ◌∙◌, ap}
use Prim.Native.Nat.{ℕ, suc, ◌+◌, ◌≤◌, ◌<◌}
use native.Mathlib.Omega.{arith}
use lib.ListN.{length, get_or, take, replicate, set, length-append}
use lib.Seq.{length-take-le, take_all, take-suc}
use Rattle.node.specs.declared.Process.{Process}
use Rattle.node.specs.declared.Stage.{Stage}
use Rattle.node.specs.declared.Stage.TheVariants.{Unborn, Live, Closing, Gone}
use Rattle.node.specs.declared.Start.{Start}
use Rattle.node.specs.declared.Starts.{Starts}
use Rattle.node.specs.Processes.{unborn}
use Rattle.node.specs.Starts.{live_from, no_start, row_of, row_with, start_if, start_of}
use Rattle.node.proofs.Lists.{sets_more}

pub live_append : (i : ℕ) (xs ys : List Process) → live_from i (xs ++ ys) ≡ live_from i xs ++ live_from (i + length xs) ys
live_append i [] ys = let e : i ≡ i + 0 = omega arith in ap (λ (k : ℕ). live_from k ys) e
live_append i (p ∷ xs) ys =
    let e : i + 1 + length xs ≡ i + length (p ∷ xs) = omega arith in
    let here = start_if p.stage (start_of i p) in
    ap (λ (l : List Start). here ++ l) (live_append (i + 1) xs ys ∙ ap (λ (k : ℕ). live_from (i + 1) xs ++ live_from k ys) e)
    ∙ sym (append_assoc here (live_from (i + 1) xs) (live_from (i + length (p ∷ xs)) ys))

if_few : (t : Stage) (s : Start) → length (start_if t s) ≤ 1
if_few Unborn s = omega arith
if_few Live s = omega arith
if_few Closing s = omega arith
if_few Gone s = omega arith

pub live_few : (i : ℕ) (ps : List Process) → length (live_from i ps) ≤ length ps
live_few i [] = omega arith
live_few i (p ∷ ps) =
    omega (arith, length-append (start_if p.stage (start_of i p)) (live_from (i + 1) ps), if_few p.stage (start_of i p), live_few (i + 1) ps)

row_same : (l : List Start) → row_of l ≡ row_of (l ++ [])
row_same l = ap row_of (sym (append-nil l))

row_with_lem : (t : Stage) (l : List Start) (s : Start) → row_with t (row_of l) s ≡ row_of (l ++ start_if t s)
row_with_lem Unborn l s = row_same l
row_with_lem Closing l s = row_same l
row_with_lem Gone l s = row_same l
row_with_lem Live l s =
    let size : length l + 1 ≡ length (l ++ (s ∷ [])) = sym (length-append l (s ∷ [])) in
    let from : length l ≡ 0 + length l = omega arith in
    ap (λ (k : ℕ). record { count = length l + 1; list = set (row_of l).list k s }) from
    ∙ ap (λ (k : ℕ). record { count = k; list = set (row_of l).list (0 + length l) s }) size
    ∙ ap (λ (x : List Start). record { count = length (l ++ (s ∷ [])); list = x }) (sets_more (replicate 16 no_start) 0 l s)

module _ (ps : List Process) (k : ℕ) {row : Starts} (is : row ≡ row_of (live_from 1 (take k ps))) where
  pub live_next : {next : Starts} → k < length ps → next ≡ row_with (get_or ps k unborn).stage row (start_of (k + 1) (get_or ps k unborn)) → next ≡ row_of (live_from 1 (take (k + 1) ps))
  live_next {next} h e =
      let p = get_or ps k unborn in
      let at : 1 + length (take k ps) ≡ k + 1 = omega (arith, length-take-le k ps (omega arith)) in
      let one : live_from (1 + length (take k ps)) (p ∷ []) ≡ start_if p.stage (start_of (k + 1) p) =
      append-nil _ ∙ ap (λ (j : ℕ). start_if p.stage (start_of j p)) at in
      let more : k + 1 ≡ suc k = omega arith in
      e ∙ ap (λ (r : Starts). row_with p.stage r (start_of (k + 1) p)) is
      ∙ row_with_lem p.stage (live_from 1 (take k ps)) (start_of (k + 1) p)
      ∙ ap row_of (sym (ap (λ (j : ℕ). live_from 1 (take j ps)) more ∙ ap (live_from 1) (take-suc ps k unborn h)
      ∙ live_append 1 (take k ps) (p ∷ []) ∙ ap (λ (l : List Start). live_from 1 (take k ps) ++ l) one))

  pub live_all : length ps ≤ k → row ≡ row_of (live_from 1 ps)
  live_all h = is ∙ ap (λ (l : List Process). row_of (live_from 1 l)) (take_all k ps h)

  pub live_room : k < 16 → k < length ps → row.count < 16
  live_room h g = omega (arith, ap (λ (r : Starts). r.count) is, live_few 1 (take k ps), length-take-le k ps (omega arith))
