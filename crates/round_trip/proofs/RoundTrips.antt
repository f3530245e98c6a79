-- The guarantees on plans that are written. Assumes nothing.
--   ops_of b       the ops of the behaviours that b holds, whose instructions they are (`ops_of_lem`)
--   node_codes     what a writer takes of a node's behaviours are the behaviours of its view
--   holds_sound    what an accepted text holds passes the test
use mathlib.Core.Bool.{Bool, true, false, So, ◌&&◌, cond}
use mathlib.Core.List.{List, map, map-id, map-map}
use mathlib.Core.Path.{◌≡◌, refl, sym, ap, subst, ◌∙◌}
use Prim.Native.Nat.{ℕ, ◌-◌, ◌*◌, ◌≤◌}
use native.Mathlib.Omega.{arith}
use lib.Dec.{leb, ltb}
use lib.ListN.{length, get_or, drop, length-map}
use Rattle.node.specs.declared.Behaviours.{Behaviours}
use Rattle.node.specs.declared.Node.{Node}
use Rattle.node.specs.declared.Op.{Op}
use Rattle.node.specs.declared.Start.{Start}
use Rattle.node.specs.Lists.{all_of, firsts, rising}
use Rattle.node.specs.Nodes.{no_op}
use Rattle.node.specs.Starts.{starts_in}
use Rattle.rules.specs.Answers.{not_sound}
use Rattle.rules.specs.Behaviours.{Instruction, code_sound, instruction}
use Rattle.rules.specs.Nodes.{behaviours_of, code}
use Rattle.rules.proofs.All.{both, parts}
use Rattle.rules.proofs.Commits.{parts_of}
use Rattle.behaviours.specs.Codes.{code_in, codes_in}
use Rattle.plan.specs.Plans.{Loaded, Plan, load_of, node_of}
use Rattle.plan.proofs.Behaviours.{behaviours_of_lem}
use Rattle.plan.proofs.Kept.{PlanKept}
use Rattle.plan.proofs.Sound.{loaded_sound}
use Rattle.listing.specs.Answers.{output_short, refused_with, told}
use Rattle.plan_writer.specs.Answers.{codes_of, plan_sound, starts_sound, write_told}
use Rattle.plan_writer.specs.Texts.{longest_plan, plan_text}
use Rattle.round_trip.specs.Guarantees.{codes_held, Holds, LoadedWrites, OneText, Short, starts_held, ToldExactly, WrittenLoads}
use Rattle.round_trip.proofs.Longest.{plan_short}
use Rattle.round_trip.proofs.ReadPlans.{as_read, load_read}
use Rattle.round_trip.proofs.StartedNodes.{as_start, starts_of}
use Rattle.round_trip.proofs.WritePlans.{load_written}

-- ---- the ops of behaviours

ops_of : Behaviours → List (List Op)
ops_of b = map (λ (k : ℕ). firsts no_op (get_or b.lens (k - 1) 0) (drop (32 * (k - 1)) b.ops)) (rising 1 b.count)

ops_of_lem : (b : Behaviours) → map (map instruction) (ops_of b) ≡ codes_of b
unfolding ops_of codes_in code_in
ops_of_lem b = map-map (map instruction) (λ (k : ℕ). firsts no_op (get_or b.lens (k - 1) 0) (drop (32 * (k - 1)) b.ops)) (rising 1 b.count)

-- ---- the node of a plan

node_codes : (n : Node) → codes_held n ≡ behaviours_of n
unfolding codes_in code_in behaviours_of code
node_codes n = refl

plan_codes_lem : (p : Plan) → PlanKept p → codes_held (node_of p) ≡ map (map instruction) p.codes
plan_codes_lem p k = node_codes (node_of p) ∙ behaviours_of_lem p k

-- ---- written, then loaded

pub short : Short
short b s h =
    subst (λ (codes : List (List Instruction)). length (plan_text codes (starts_in s)) ≤ longest_plan) (ops_of_lem b)
    (plan_short (ops_of b) (starts_in s) (subst (λ (codes : List (List Instruction)). So (plan_sound codes (starts_in s))) (sym (ops_of_lem b)) h))

-- a load that gives the node of a plan holds what the plan does
plan_holds : (text : List ℕ) (p : Plan) {codes : List (List Instruction)} {starts : List Start} (c : ℕ) → load_of text ≡ record { number = 0; line = 0; node = node_of p } → PlanKept p
    → map (map instruction) p.codes ≡ codes → map as_start p.starts ≡ starts → So (starts_sound c starts) → Holds text codes starts
plan_holds text p {codes} {starts} c is k e f h = record {
  number = ap (λ (r : Loaded). r.number) is;
  line = ap (λ (r : Loaded). r.line) is;
  behaviours = ap (λ (r : Loaded). codes_held r.node) is ∙ plan_codes_lem p k ∙ e;
  row = ap (λ (r : Loaded). starts_held r.node) is ∙ starts_of p c (subst (λ (l : List Start). So (starts_sound c l)) (sym f) h) ∙ f;
}

plan_starts_lem : (codes : List (List Instruction)) (starts : List Start) → So (plan_sound codes starts) → So (starts_sound (length codes) starts)
unfolding plan_sound
plan_starts_lem codes starts h =
    (parts (leb 1 (length codes) && leb (length codes) 8 && all_of (code_sound (length codes)) codes) (starts_sound (length codes) starts) h).1

ops_load : (codes : List (List Op)) (starts : List Start) → So (plan_sound (map (map instruction) codes) starts)
    → Holds (plan_text (map (map instruction) codes) starts) (map (map instruction) codes) starts
ops_load codes starts h =
    let r = load_read codes starts h (omega (arith, plan_short codes starts h)) in
    let back : map as_start r.0.starts ≡ starts = ap (map as_start) r.4 ∙ map-map as_start as_read starts ∙ map-id starts in
    plan_holds _ r.0 (length (map (map instruction) codes)) r.1 r.2 r.3 back (plan_starts_lem (map (map instruction) codes) starts h)

pub written_loads : WrittenLoads
written_loads b s h =
    let at : List (List Instruction) → Type 0 = λ codes. Holds (plan_text codes (starts_in s)) codes (starts_in s) in
    subst at (ops_of_lem b) (ops_load (ops_of b) (starts_in s) (subst (λ (codes : List (List Instruction)). So (plan_sound codes (starts_in s))) (sym (ops_of_lem b)) h))

-- ---- loaded, then written

pub loaded_writes : LoadedWrites
loaded_writes text e =
    let r = load_written text e in
    let p = r.0 in
    let codes : codes_held (load_of text).node ≡ map (map instruction) p.codes = ap codes_held r.1 ∙ plan_codes_lem p r.2 in
    let starts : starts_held (load_of text).node ≡ map as_start p.starts = ap starts_held r.1 ∙ starts_of p (length p.codes) r.4 in
    ap (λ (l : List (List Instruction)). plan_text l (starts_held (load_of text).node)) codes ∙ ap (plan_text (map (map instruction) p.codes)) starts ∙ sym r.3

pub one_text : OneText
one_text s t codes starts h g =
    sym (loaded_writes s h.number)
    ∙ ap (λ (l : List (List Instruction)). plan_text l (starts_held (load_of s).node)) (h.behaviours ∙ sym g.behaviours)
    ∙ ap (plan_text (codes_held (load_of t).node)) (h.row ∙ sym g.row)
    ∙ loaded_writes t g.number

-- ---- 31

loaded_passes : (text : List ℕ) → (load_of text).number ≡ 0 → So (plan_sound (codes_held (load_of text).node) (starts_held (load_of text).node))
unfolding plan_sound
loaded_passes text e =
    let r = load_written text e in
    let p = r.0 in
    let n = (load_of text).node in
    let whole = parts_of n (loaded_sound text) in
    let size : length p.codes ≡ length (behaviours_of n) =
    sym (ap length (ap behaviours_of r.1 ∙ behaviours_of_lem p r.2) ∙ length-map p.codes (map instruction)) in
    let row : starts_held n ≡ map as_start p.starts = ap starts_held r.1 ∙ starts_of p (length p.codes) r.4 in
    let fits : So (starts_sound (length (behaviours_of n)) (starts_held n)) =
    subst (λ (c : ℕ). So (starts_sound c (starts_held n))) size (subst (λ (l : List Start). So (starts_sound (length p.codes) l)) (sym row) r.4) in
    subst (λ (codes : List (List Instruction)). So (leb 1 (length codes) && leb (length codes) 8 && all_of (code_sound (length codes)) codes && starts_sound (length codes) (starts_held n)))
    (sym (node_codes n)) (both (both whole.few whole.codes) fits)

holds_sound : (text : List ℕ) (codes : List (List Instruction)) (starts : List Start) → Holds text codes starts → So (plan_sound codes starts)
holds_sound text codes starts h =
    subst (λ (l : List Start). So (plan_sound codes l)) h.row
    (subst (λ (l : List (List Instruction)). So (plan_sound l (starts_held (load_of text).node))) h.behaviours (loaded_passes text h.number))

-- told of a plan that passes: 30, or 0
passes_told : (codes : List (List Instruction)) (starts : List Start) (old : List ℕ) → So (plan_sound codes starts) → (write_told codes starts old).number ≡ not_sound → ⊥
unfolding write_told told
passes_told codes starts old h e = go (ltb (length old) (length (plan_text codes starts))) (rw h at e)
  where
    go : (b : Bool) → (cond b (refused_with output_short) (record { number = 0; length = length (plan_text codes starts) })).number ≡ not_sound → ⊥
    go true q = omega (arith, q)
    go false q = omega (arith, q)

fails_told : (codes : List (List Instruction)) (starts : List Start) (old : List ℕ) → plan_sound codes starts ≡ false → (write_told codes starts old).number ≡ not_sound
unfolding write_told
fails_told codes starts old e = rw e

pub told_exactly : ToldExactly
told_exactly b s old = (
  (λ none. go none (plan_sound (codes_of b) (starts_in s)) refl),
  (λ e text h. passes_told (codes_of b) (starts_in s) old (holds_sound text (codes_of b) (starts_in s) h) e),
)
  where
    go : ((text : List ℕ) → Holds text (codes_of b) (starts_in s) → ⊥) → (t : Bool) → plan_sound (codes_of b) (starts_in s) ≡ t → (write_told (codes_of b) (starts_in s) old).number ≡ not_sound
    go none true e = absurd (none (plan_text (codes_of b) (starts_in s)) (written_loads b s e))
    go none false e = fails_told (codes_of b) (starts_in s) old e
