-- Plan text that is written is accepted by a load, and gives the behaviours and starts of which it was written. Assumes nothing.
--   as_read s                 a start as a line `start=` gives it
--   Gives r rest P            a reading has a result with P, and leaves the rows `rest`
--   times_gives               a reading that is repeated, each time of one element more
--   codes_give starts_give    the rows of behaviours, and of starts
--   plan_read                 the rows of a plan
--   rows_clean                no row of a plan has a byte that ends a line
--   load_read                 the text of a plan
use mathlib.Core.Bool.{Bool, So, ◌&&◌}
use mathlib.Core.List.{List, [], ◌∷◌, ◌++◌, append_assoc, append-nil, map, map-id}
use mathlib.Core.Path.{◌≡◌, refl, sym, ap, ◌∙◌}
use Prim.Native.Nat.{ℕ, ◌+◌, ◌≤◌}
use native.Mathlib.Omega.{arith}
use borrow.Author.Tests.{eq-eqb, le-ltb, leb-true}
use lib.Dec.{leb}
use lib.ListN.{length, length-map}
use lib.Seq.{append_snoc}
use Rattle.node.specs.declared.Op.{Op}
use Rattle.node.specs.declared.Start.{Start}
use Rattle.node.specs.Lists.{all_from, all_of}
use Rattle.node.proofs.Lists.{all_from_both, all_of_from, map_append}
use Rattle.rules.specs.Answers.{Answer, done}
use Rattle.rules.specs.Behaviours.{code_sound, in_range, Instruction, instruction, well_placed}
use Rattle.rules.proofs.All.{all_of_join, all_of_map, both, parts}
use Rattle.placement.specs.Misplaced.{first_code, misplaced_from}
use Rattle.placement.proofs.Placed.{misplaced_sound}
use Rattle.plan_line.specs.Lines.{Start as ReadStart}
use Rattle.plan_line.specs.Lines.{behaviours_key, code_key, count_line, header, header_line, op_line, start_line, starts_key}
use Rattle.plan.specs.Plans.{before_first, checked, code_lines, last_from, load_of, misplaced, more, node_of, Plan, plan_lines, start_lines, start_more}
use Rattle.plan.specs.Reading.{end_of, good, Left, on_line, Read, times}
use Rattle.plan.proofs.Behaviours.{behaviours_of_lem}
use Rattle.plan.proofs.Kept.{plan_kept, PlanKept}
use Rattle.plan.proofs.Nodes.{last_more}
use Rattle.plan_writer.specs.Answers.{plan_sound, start_fits, starts_rise}
use Rattle.plan_writer.specs.Texts.{code_rows, codes_rows, numbered, op_row, plan_rows, plan_text, start_row}
use Rattle.round_trip.proofs.ReadLines.{clean, count_read, header_clean, header_read, lines_read, numbered_clean, op_clean, start_clean, start_read}
use Rattle.round_trip.proofs.ReadOps.{op_read}

abbrev pub as_read : Start → ReadStart
as_read s = record { refusal = 0; process = s.process; behaviour = s.behaviour }

-- ---- readings

-- rows, of which the first is line n
abbrev rows_at : List (List ℕ) → ℕ → Left
rows_at rows n = record { text = record { whole = rows; rest = [] }; first = n }

abbrev Gives : {A : Type 0} → Read A → List (List ℕ) → (A → Type 0) → Type 0
Gives {A} r rest P = (y : A) × (k : ℕ) × (r ≡ good y (rows_at rest k)) × P y

line_is : {A : Type 0} (f : List ℕ → Answer A) (row : List ℕ) (rest : List (List ℕ)) (n : ℕ) {y : A} → f row ≡ done y
    → on_line f (rows_at (row ∷ rest) n) ≡ good y (rows_at rest (n + 1))
unfolding on_line
line_is f row rest n e = rw e

-- what is read of each x of xs agrees with it under g and h; Fit ys xs is what is asked of xs behind ys
module _ {A B X : Type 0} (g : A → B) (h : X → B) (text : List X → List (List ℕ)) (f : List A → Left → Read A) (Fit : List A → List X → Type 0) (stop : text [] ≡ [])
    (step : (ys : List A) (x : X) (xs : List X) → Fit ys (x ∷ xs) → (rest : List (List ℕ)) (n : ℕ)
    → Gives (f ys (rows_at (text (x ∷ xs) ++ rest) n)) (text xs ++ rest) (λ y. (g y ≡ h x) × Fit (ys ++ (y ∷ [])) xs)) where
  times_gives : (ys : List A) (xs : List X) → Fit ys xs → (rest : List (List ℕ)) (n : ℕ)
      → Gives (times (length xs) (λ (zs : List A). more (f zs) zs) ys (rows_at (text xs ++ rest) n)) rest (λ zs. map g zs ≡ map g ys ++ map h xs)
  unfolding times
  times_gives ys [] fit rest n = (ys, n, rw stop, sym (append-nil (map g ys)))
  times_gives ys (x ∷ xs) fit rest n =
      let one = step ys x xs fit rest n in
      let zs = ys ++ (one.0 ∷ []) in
      let next = times_gives zs xs one.3.1 rest one.1 in
      (next.0, next.1, rw one.2 next.2, next.3 ∙ rw (map_append g ys (one.0 ∷ []), one.3.0) (append_snoc (map g ys) (h x) (map h xs)))

-- ---- behaviours

abbrev op_fits : ℕ → ℕ → Op → Bool
op_fits c n o = in_range c n (instruction o)

code_fits : (c : ℕ) (code : List Op) → So (code_sound c (map instruction code)) → (1 ≤ length code) × (length code ≤ 32) × So (all_of (op_fits c (length code)) code)
unfolding code_sound
code_fits c code h =
    let xs = map instruction code in
    let n = length code in
    let fits : ℕ → Instruction → Bool = λ t x. in_range c n x in
    let w = parts (leb 1 n && leb n 32) (all_from (λ t x. in_range c n x && well_placed xs t x) 0 xs) (rw (length-map code instruction) at h) in
    let size = parts (leb 1 n) (leb n 32) w.0 in
    let all = (parts (all_from fits 0 xs) (all_from (well_placed xs) 0 xs) (rw (all_from_both fits (well_placed xs) 0 xs) at w.1)).0 in
    (leb-true 1 n size.0, leb-true n 32 size.1, rw (← all_of_from (in_range c n) 0 xs, all_of_map (in_range c n) instruction code) at all)

module _ (c : ℕ) (few : c ≤ 255) where
  ops_give : (n : ℕ) → n ≤ 255 → (code : List Op) → So (all_of (op_fits c n) code) → (rest : List (List ℕ)) (k : ℕ)
      → Gives (times (length code) (more (on_line (op_line c n))) [] (rows_at (map op_row (map instruction code) ++ rest) k)) rest (λ os. map instruction os ≡ map instruction code)
  ops_give n short =
      times_gives instruction instruction (λ os. map op_row (map instruction os)) (λ os. on_line (op_line c n)) (λ os xs. So (all_of (op_fits c n) xs)) refl
      (λ os o xs h rest k.
      let w = parts (op_fits c n o) (all_of (op_fits c n) xs) h in
      let read = op_read c n o few short w.0 in
      (read.0, k + 1, line_is (op_line c n) (op_row (instruction o)) (map op_row (map instruction xs) ++ rest) k read.1, (read.2, w.1)))
      []

  code_gives : (code : List Op) → So (code_sound c (map instruction code)) → (rest : List (List ℕ)) (k : ℕ)
      → Gives (code_lines c (rows_at (code_rows (map instruction code) ++ rest) k)) rest (λ os. map instruction os ≡ map instruction code)
  unfolding code_lines code_rows
  code_gives code h rest k =
      let n = length code in
      let w = code_fits c code h in
      let count = count_read code_key 1 32 n w.0 w.1 (omega arith) in
      rw (length-map code instruction, line_is (count_line code_key 1 32) (numbered code_key n) (map op_row (map instruction code) ++ rest) k count)
      (ops_give n (omega (arith, w.1)) code w.2 rest (k + 1))

  abbrev codes_fit : List (List Op) → Bool
  codes_fit codes = all_of (λ (code : List Op). code_sound c (map instruction code)) codes

  codes_give : (codes : List (List Op)) → So (codes_fit codes) → (rest : List (List ℕ)) (k : ℕ)
      → Gives (times (length codes) (more (code_lines c)) [] (rows_at (codes_rows (map (map instruction) codes) ++ rest) k)) rest
      (λ read. map (map instruction) read ≡ map (map instruction) codes)
  unfolding codes_rows
  codes_give =
      times_gives (map instruction) (map instruction) (λ codes. codes_rows (map (map instruction) codes)) (λ read. code_lines c) (λ read codes. So (codes_fit codes)) refl
      (λ read code codes h rest k.
      let w = parts (code_sound c (map instruction code)) (codes_fit codes) h in
      let rows = codes_rows (map (map instruction) codes) in
      let one = code_gives code w.0 (rows ++ rest) k in
      (one.0, one.1, rw (append_assoc (code_rows (map instruction code)) rows rest) one.2, (one.3, w.1)))
      []

  -- ---- starts

  starts_give : (starts : List Start) → So (starts_rise c 0 starts) → (k : ℕ)
      → Gives (times (length starts) (start_more c) [] (rows_at (map start_row starts) k)) [] (λ read. read ≡ map as_read starts)
  unfolding starts_rise
  starts_give starts h k =
      let all = times_gives (λ (s : ReadStart). s) as_read (map start_row) (λ read. on_line (start_line c (last_from before_first read)))
      (λ read starts. So (starts_rise c (last_from before_first read).0 starts)) refl
      (λ read s starts h rest k.
      let last = last_from before_first read in
      let w = parts (start_fits c last.0 s) (starts_rise c s.process.0 starts) h in
      let line = line_is (start_line c last) (start_row s) (map start_row starts ++ rest) k (start_read c last s few w.0) in
      (as_read s, k + 1, line, (refl, rw (last_more before_first read (as_read s)) w.1)))
      [] starts h [] k in
      (all.0, all.1, rw append-nil at all.2, sym (map-id all.0) ∙ all.3)

-- ---- a plan

record PlanFits (codes : List (List Op)) (starts : List Start) : Type 0 where
  least : 1 ≤ length codes
  most : length codes ≤ 8
  sound : So (all_of (code_sound (length codes)) (map (map instruction) codes))
  some : 1 ≤ length starts
  few : length starts ≤ 16
  rise : So (starts_rise (length codes) 0 starts)

plan_fits : (codes : List (List Op)) (starts : List Start) → So (plan_sound (map (map instruction) codes) starts) → PlanFits codes starts
unfolding plan_sound
plan_fits codes starts h =
    let c = length codes in
    let n = length starts in
    let xs = map (map instruction) codes in
    let w = parts (leb 1 c && leb c 8 && all_of (code_sound c) xs) (leb 1 n && leb n 16 && starts_rise c 0 starts) (rw (length-map codes (map instruction)) at h) in
    let a = parts (leb 1 c && leb c 8) (all_of (code_sound c) xs) w.0 in
    let b = parts (leb 1 n && leb n 16) (starts_rise c 0 starts) w.1 in
    let size = parts (leb 1 c) (leb c 8) a.0 in
    let many = parts (leb 1 n) (leb n 16) b.0 in
    record {
      least = leb-true 1 c size.0;
      most = leb-true c 8 size.1;
      sound = a.1;
      some = leb-true 1 n many.0;
      few = leb-true n 16 many.1;
      rise = b.1;
    }

pub plan_read : (codes : List (List Op)) (starts : List Start) → So (plan_sound (map (map instruction) codes) starts)
    → (p : Plan) × (l : Left) × (plan_lines (record { text = record { whole = plan_rows (map (map instruction) codes) starts; rest = [] }; first = 1 }) ≡ good p l)
    × (map (map instruction) p.codes ≡ map (map instruction) codes) × (p.starts ≡ map as_read starts)
unfolding plan_lines plan_rows start_lines end_of
plan_read codes starts h =
    let f = plan_fits codes starts h in
    let c = length codes in
    let n = length starts in
    let few : c ≤ 255 = omega (arith, f.most) in
    let behind = numbered starts_key n ∷ map start_row starts in
    let rows = codes_rows (map (map instruction) codes) ++ behind in
    let count = count_read behaviours_key 1 8 c f.least f.most (omega arith) in
    let counted = count_read starts_key 1 16 n f.some f.few (omega arith) in
    let read = codes_give c few codes (rw (all_of_map (code_sound c) (map instruction) codes) at f.sound) behind 3 in
    let started = starts_give c few starts f.rise (read.1 + 1) in (
      record { codes = read.0; starts = started.0 },
      rows_at [] started.1,
      rw (
        length-map codes (map instruction),
        line_is header_line header (numbered behaviours_key c ∷ rows) 1 header_read,
        line_is (count_line behaviours_key 1 8) (numbered behaviours_key c) rows 2 count,
        read.2,
        line_is (count_line starts_key 1 16) (numbered starts_key n) (map start_row starts) read.1 counted,
        started.2,
      ),
      read.3,
      started.3,
    )

-- ---- a load

all_map : {X Y : Type 0} (f : Y → Bool) (g : X → Y) → ((x : X) → So (f (g x))) → (xs : List X) → So (all_of f (map g xs))
all_map f g h [] = refl
all_map f g h (x ∷ xs) = both (h x) (all_map f g h xs)

codes_clean : (codes : List (List Instruction)) → So (all_of clean (codes_rows codes))
unfolding codes_rows code_rows
codes_clean [] = refl
codes_clean (code ∷ codes) =
    all_of_join clean (code_rows code) (codes_rows codes) (both (numbered_clean code_key (length code) refl) (all_map clean op_row op_clean code)) (codes_clean codes)

rows_clean : (codes : List (List Instruction)) (starts : List Start) → So (all_of clean (plan_rows codes starts))
unfolding plan_rows
rows_clean codes starts =
    both header_clean (both (numbered_clean behaviours_key (length codes) refl)
    (all_of_join clean (codes_rows codes) (numbered starts_key (length starts) ∷ map start_row starts) (codes_clean codes)
    (both (numbered_clean starts_key (length starts) refl) (all_map clean start_row start_clean starts))))

checked_sound : (p : Plan) → PlanKept p → (c : ℕ) (codes : List (List Instruction)) → map (map instruction) p.codes ≡ codes → So (all_of (code_sound c) codes)
    → checked p ≡ record { number = 0; line = 0; node = node_of p }
unfolding checked misplaced
checked_sound p kept c codes same h =
    let none = ap (misplaced_from first_code) (behaviours_of_lem p kept ∙ same) ∙ misplaced_sound c first_code codes h in
    rw (eq-eqb _ 0 none)

pub load_read : (codes : List (List Op)) (starts : List Start) → So (plan_sound (map (map instruction) codes) starts)
    → length (plan_text (map (map instruction) codes) starts) ≤ 16384
    → (p : Plan) × (load_of (plan_text (map (map instruction) codes) starts) ≡ record { number = 0; line = 0; node = node_of p }) × PlanKept p
    × (map (map instruction) p.codes ≡ map (map instruction) codes) × (p.starts ≡ map as_read starts)
unfolding load_of plan_text
load_read codes starts h short =
    let text = plan_text (map (map instruction) codes) starts in
    let read = plan_read codes starts h in
    let p = read.0 in
    let kept = plan_kept _ read.2 in
    let lines = lines_read (plan_rows (map (map instruction) codes) starts) (rows_clean (map (map instruction) codes) starts) in
    let told = checked_sound p kept (length codes) (map (map instruction) codes) read.3 (plan_fits codes starts h).sound in
    (p, rw (le-ltb 16384 (length text) short, lines, read.2) told, kept, read.3, read.4)
