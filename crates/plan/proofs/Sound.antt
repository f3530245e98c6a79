-- What a load gives is a sound node, whatever text it is given. Assumes nothing.
--   blank_sound     the blank node, which a refused load gives
--   plan_sound_lem  the node of a plan that keeps its limits and that no line is told of
--   loaded_sound    the node of every load
--   refused_blank a refused load gives the blank node
use mathlib.Core.Bool.{Bool, true, false, So, ◌&&◌, cond}
use mathlib.Core.List.{List, [], ◌∷◌, map}
use mathlib.Core.Path.{◌≡◌, refl, sym, ap, subst, ◌∙◌}
use Prim.Native.Nat.{ℕ, zero, suc, ◌-◌, ◌*◌, ◌<◌}
use native.Mathlib.Decide.{ℕ_discrete}
use native.Mathlib.Omega.{arith}
use borrow.Author.Tests.{le-leb, eqb-true}
use lib.Dec.{eqb, leb, ltb}
use lib.ListN.{length, get_or, set, replicate, length-map, length-set, get_or-replicate}
use lib.Seq.{get_or-set_other, length-sets}
use Rattle.node.specs.declared.Message.{Message}
use Rattle.node.specs.declared.Node.{Node}
use Rattle.node.specs.declared.Op.{Op}
use Rattle.node.specs.declared.Process.{Process}
use Rattle.node.specs.declared.Signal.{Signal}
use Rattle.node.specs.Lists.{all_from, all_of}
use Rattle.node.specs.Ops.{kinds_of}
use Rattle.node.specs.Nodes.{blank_node, no_process, pair}
use Rattle.node.specs.Processes.{fresh, unborn}
use Rattle.node.specs.Values.{int_zero, fits_int, is_number}
use Rattle.node.proofs.Contents.{messages_length, signals_length}
use Rattle.node.proofs.Lists.{all_from_both, all_of_from}
use Rattle.rules.specs.Behaviours.{Instruction, code_sound, has_clauses, in_range, instruction, operand, operand_in_range, targets_free, well_placed}
use Rattle.rules.specs.Nodes.{Sound, behaviours_of, code, mailbox, process, row, row_sound, standing, standing_sound}
use Rattle.rules.proofs.All.{both, parts, all_of_map}
use Rattle.rules.proofs.Commits.{of_parts}
use Rattle.rules.proofs.Places.{fresh_sound}
use Rattle.rules.proofs.Records.{number_bounds}
use Rattle.rules.proofs.Shape.{Sized}
use Rattle.text.specs.Parts.{lines_of}
use Rattle.placement.specs.Misplaced.{first_code}
use Rattle.placement.proofs.Placed.{misplaced_none}
use Rattle.plan_line.specs.Lines.{Start}
use Rattle.plan.specs.Plans.{Loaded, Plan, text_too_long, ill_placed, empty_node, with_code, with_start, with_each, node_of, misplaced, refused_load, checked, loaded_from, plan_lines, load_of}
use Rattle.plan.specs.Reading.{Left, Read, bad, good}
use Rattle.plan.proofs.Behaviours.{behaviours_of_lem}
use Rattle.plan.proofs.Kept.{code_kept, start_kept, PlanKept, plan_kept}

-- ---- no mail, nothing in flight

module _ {A : Type 0} where
  -- what holds of x and of the default holds of what is read where x is stored
  set_read : (Q : A → Type 0) (d : A) (l : List A) (k : ℕ) (x : A) → Q d → Q x → Q (get_or (set l k x) k d)
  set_read Q d [] zero x h g = h
  set_read Q d [] (suc k) x h g = h
  set_read Q d (y ∷ l) zero x h g = g
  set_read Q d (y ∷ l) (suc k) x h g = set_read Q d l k x h g

  nothing_in_lem : (l : List A) → length l ≡ 0 → l ≡ []
  nothing_in_lem [] e = refl
  nothing_in_lem (x ∷ l) e = absurd (omega arith)

-- the count of block k, where all counts are 0
none_at : (size k : ℕ) (counts : List ℕ) → counts ≡ replicate size 0 → k < size → get_or counts k 0 ≡ 0
none_at size k counts e h = ap (λ (l : List ℕ). get_or l k 0) e ∙ get_or-replicate size k 0 0 h

module _ (codes : List (List Instruction)) where
  abbrev Stand : ℕ → Process → Type 0
  Stand i p = So (standing_sound codes i (standing p []))

  unborn_stands : (i : ℕ) → Stand i unborn
  unfolding standing
  unborn_stands i = refl

  none_stands : (i : ℕ) → Stand i no_process
  unfolding standing
  none_stands i = refl

  -- every process, in an array of all
  abbrev Stands : List Process → Type 0
  Stands ps = (i : ℕ) → So (is_number i) → Stand i (get_or ps (i - 1) no_process)

  all_unborn : Stands (replicate 16 unborn)
  all_unborn i h = let x = number_bounds i h in rw (get_or-replicate 16 (i - 1) unborn no_process (omega arith)) (unborn_stands i)

  one_more : (ps : List Process) (k : ℕ) (p : Process) → Stands ps → ((i : ℕ) → Stand i p) → Stands (set ps k p)
  one_more ps k p all h i n = go (ℕ_discrete (i - 1) k)
    where
      go : Dec (i - 1 ≡ k) → Stand i (get_or (set ps k p) (i - 1) no_process)
      go (yes e) = rw e (set_read (Stand i) no_process ps k p (none_stands i) (h i))
      go (no d) = rw (get_or-set_other ps k (i - 1) p no_process d) (all i n)

  started_stands : So (all_of (code_sound (length codes)) codes) → (s : Start) → So (start_kept (length codes) s) → (i : ℕ) → Stand i (fresh s.behaviour int_zero)
  unfolding fits_int
  started_stands sounds s h i = fresh_sound codes sounds i s.behaviour int_zero (parts (is_number s.process.0) _ h).1 refl

  starts_stand : So (all_of (code_sound (length codes)) codes) → (n : Node) (starts : List Start) → So (all_of (start_kept (length codes)) starts) → Stands n.processes
      → Stands (with_each with_start n starts).processes
  starts_stand sounds n [] h all = all
  starts_stand sounds n (s ∷ starts) h all =
      let w = parts (start_kept (length codes) s) (all_of (start_kept (length codes)) starts) h in
      starts_stand sounds (with_start n s) starts w.1 (one_more n.processes (s.process.0 - 1) (fresh s.behaviour int_zero) all (started_stands sounds s w.0))

-- ---- a node without mail and signals

module _ (n : Node) (sized : Sized n) (mail : n.waiting ≡ replicate 16 0) (flight : n.counts ≡ replicate 256 0) where
  no_mail : (i : ℕ) → So (is_number i) → mailbox n i ≡ []
  no_mail i h = let x = number_bounds i h in nothing_in_lem (mailbox n i) (messages_length _ ∙ none_at 16 (i - 1) n.waiting mail (omega arith))

  no_signals : (j i : ℕ) → So (is_number j) → So (is_number i) → row n j i ≡ []
  no_signals j i h g =
      let x = number_bounds j h in
      let y = number_bounds i g in
      nothing_in_lem (row n j i) (signals_length _ ∙ none_at 256 (pair j i) n.counts flight (omega arith))

  pub quiet_sound : So (leb 1 (length (behaviours_of n)) && leb (length (behaviours_of n)) 8) → So (all_of (code_sound (length (behaviours_of n))) (behaviours_of n))
      → Stands (behaviours_of n) n.processes → Sound n
  unfolding row_sound
  quiet_sound few codes all = of_parts n (record {
    few = few;
    codes = codes;
    processes = λ i h. subst (λ (m : List Message). So (standing_sound (behaviours_of n) i (standing (process n i) m))) (sym (no_mail i h)) (all i h);
    rows = λ j i h g. subst (λ (r : List Signal). So (row_sound j i r)) (sym (no_signals j i h g)) refl;
    sized = sized;
  })

blank_sized : Sized blank_node
unfolding blank_node
blank_sized = record { lens = refl; ops = refl; processes = refl; mail = record { cells = refl; counts = refl }; flight = record { cells = refl; counts = refl } }

pub blank_sound : Sound blank_node
unfolding blank_node behaviours_of code instruction operand kinds_of code_sound in_range operand_in_range well_placed has_clauses targets_free
blank_sound = quiet_sound blank_node blank_sized refl refl refl refl (all_unborn (behaviours_of blank_node))

-- ---- the codes of a plan

code_sound_of : (c : ℕ) (code : List Op) → So (code_kept c code) → So (all_from (well_placed (map instruction code)) 0 (map instruction code)) → So (code_sound c (map instruction code))
unfolding code_sound
code_sound_of c code h g =
    let xs = map instruction code in
    let test : Instruction → Bool = in_range c (length code) in
    let w = parts (leb 1 (length code) && leb (length code) 32) (all_of (λ (o : Op). test (instruction o)) code) h in
    let fit : So (all_from (λ (t : ℕ) (x : Instruction). test x) 0 xs) = rw (← all_of_from test 0 xs, all_of_map test instruction code) w.1 in
    rw (length-map code instruction, all_from_both (λ (t : ℕ) (x : Instruction). test x) (well_placed xs) 0 xs) (both w.0 (both fit g))

codes_sound_lem : (c : ℕ) (codes : List (List Op)) → So (all_of (code_kept c) codes) → So (all_of (λ (code : List Instruction). all_from (well_placed code) 0 code) (map (map instruction) codes))
    → So (all_of (code_sound c) (map (map instruction) codes))
codes_sound_lem c [] h g = refl
codes_sound_lem c (code ∷ codes) h g =
    let a = parts (code_kept c code) (all_of (code_kept c) codes) h in
    let b = parts (all_from (well_placed (map instruction code)) 0 (map instruction code)) _ g in
    both (code_sound_of c code a.0 b.0) (codes_sound_lem c codes a.1 b.1)

-- ---- the node of a plan

-- f leaves what `get` reads
pub each_keeps : {A B : Type 0} (get : Node → B) (f : Node → A → Node) → ((n : Node) (x : A) → get (f n x) ≡ get n) → (n : Node) (xs : List A) → get (with_each f n xs) ≡ get n
each_keeps get f h n [] = refl
each_keeps get f h n (x ∷ xs) = each_keeps get f h (f n x) xs ∙ h n x

plan_keeps : {B : Type 0} (get : Node → B) → ((n : Node) (s : Start) → get (with_start n s) ≡ get n) → ((n : Node) (code : List Op) → get (with_code n code) ≡ get n) → (p : Plan) → get (node_of p)
    ≡ get empty_node
unfolding node_of
plan_keeps get h g p = each_keeps get with_start h (with_each with_code empty_node p.codes) p.starts ∙ each_keeps get with_code g empty_node p.codes

-- its arrays are as long as their types say
code_sized : (n : Node) (code : List Op) → Sized n → Sized (with_code n code)
code_sized n code z = record {
  lens = length-set n.lens n.count (length code) ∙ z.lens;
  ops = length-sets n.ops (n.count * 32) code ∙ z.ops;
  processes = z.processes;
  mail = z.mail;
  flight = z.flight;
}

start_sized : (n : Node) (s : Start) → Sized n → Sized (with_start n s)
start_sized n s z = record {
  lens = z.lens;
  ops = z.ops;
  processes = length-set n.processes (s.process.0 - 1) _ ∙ z.processes;
  mail = z.mail;
  flight = z.flight;
}

each_sized : {A : Type 0} (f : Node → A → Node) → ((n : Node) (x : A) → Sized n → Sized (f n x)) → (n : Node) (xs : List A) → Sized n → Sized (with_each f n xs)
each_sized f h n [] z = z
each_sized f h n (x ∷ xs) z = each_sized f h (f n x) xs (h n x z)

empty_sized : Sized empty_node
empty_sized = record { lens = refl; ops = refl; processes = refl; mail = record { cells = refl; counts = refl }; flight = record { cells = refl; counts = refl } }

plan_sized : (p : Plan) → Sized (node_of p)
unfolding node_of
plan_sized p = each_sized with_start start_sized _ p.starts (each_sized with_code code_sized _ p.codes empty_sized)

plan_stands : (p : Plan) (codes : List (List Instruction)) → So (all_of (code_sound (length codes)) codes) → So (all_of (start_kept (length codes)) p.starts) → Stands codes (node_of p).processes
unfolding node_of
plan_stands p codes sounds h =
    let coded = with_each with_code empty_node p.codes in
    starts_stand codes sounds coded p.starts h (subst (Stands codes) (sym (each_keeps (λ (n : Node). n.processes) with_code (λ n code. refl) empty_node p.codes)) (all_unborn codes))

pub plan_sound_lem : (p : Plan) → PlanKept p → misplaced (node_of p) ≡ 0 → Sound (node_of p)
unfolding misplaced
plan_sound_lem p k none =
    let n = node_of p in
    let is = behaviours_of_lem p k in
    let size : length (behaviours_of n) ≡ length p.codes = ap length is ∙ length-map p.codes (map instruction) in
    let placed = subst (λ (bs : List (List Instruction)). So (all_of (λ (code : List Instruction). all_from (well_placed code) 0 code) bs)) is (misplaced_none first_code (behaviours_of n) none) in
    let sounds : So (all_of (code_sound (length (behaviours_of n))) (behaviours_of n)) =
    subst (λ (bs : List (List Instruction)). So (all_of (code_sound (length (behaviours_of n))) bs)) (sym is) (subst (λ (c : ℕ). So (all_of (code_sound c) (map (map instruction) p.codes))) (sym size)
    (codes_sound_lem (length p.codes) p.codes k.codes placed)) in
    quiet_sound n (plan_sized p) (plan_keeps (λ (n : Node). n.waiting) (λ n s. refl) (λ n code. refl) p) (plan_keeps (λ (n : Node). n.counts) (λ n s. refl) (λ n code. refl) p)
    (both (le-leb 1 (length (behaviours_of n)) (omega (arith, size, k.least))) (le-leb (length (behaviours_of n)) 8 (omega (arith, size, k.most))))
    sounds
    (plan_stands p (behaviours_of n) sounds (subst (λ (c : ℕ). So (all_of (start_kept c) p.starts)) (sym size) k.starts))

-- ---- a load

refused_sound : (k line : ℕ) → Sound (refused_load k line).node
unfolding refused_load
refused_sound k line = blank_sound

either : (Q : Loaded → Type 0) (t : Bool) (x y : Loaded) → (t ≡ true → Q x) → (t ≡ false → Q y) → Q (cond t x y)
either Q true x y h g = h refl
either Q false x y h g = g refl

checked_sound : (p : Plan) → PlanKept p → Sound (checked p).node
unfolding checked
checked_sound p k =
    either (λ (r : Loaded). Sound r.node) (eqb (misplaced (node_of p)) 0) _ _ (λ e. plan_sound_lem p k (eqb-true (misplaced (node_of p)) 0 e)) (λ e. refused_sound ill_placed (misplaced (node_of p)))

read_sound : (l : Left) (r : Read Plan) → plan_lines l ≡ r → Sound (loaded_from r).node
read_sound l (bad k n) e = refused_sound k n
read_sound l (good p rest) e = checked_sound p (plan_kept l e)

pub loaded_sound : (text : List ℕ) → Sound (load_of text).node
unfolding load_of
loaded_sound text =
    let all : Left = record { text = lines_of text; first = 1 } in
    either (λ (r : Loaded). Sound r.node) (ltb 16384 (length text)) _ _ (λ e. refused_sound text_too_long 0) (λ e. read_sound all (plan_lines all) refl)

-- "A refused load gives a blank node"
Blank : Loaded → Type 0
Blank r = (r.number ≡ 0 → ⊥) → r.node ≡ blank_node

read_blank : (r : Read Plan) → Blank (loaded_from r)
unfolding Blank refused_load checked
read_blank (bad k n) = λ h. refl
read_blank (good p rest) = either Blank (eqb (misplaced (node_of p)) 0) _ _ (λ e h. absurd (h refl)) (λ e h. refl)

pub refused_blank : (text : List ℕ) → ((load_of text).number ≡ 0 → ⊥) → (load_of text).node ≡ blank_node
unfolding Blank load_of refused_load
refused_blank text = either Blank (ltb 16384 (length text)) _ _ (λ e h. refl) (λ e. read_blank (plan_lines (record { text = lines_of text; first = 1 })))
