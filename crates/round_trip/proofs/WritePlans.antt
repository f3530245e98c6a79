-- A plan text that is read and accepted is the very text that the writer writes of its plan. Assumes nothing.
--   Took l rows k     between l and k these rows were read;  times_took lines_took  so by some readings one behind another
--   code_written codes_written starts_written   the rows of codes and starts that were read
--   rows_written      the lines of an accepted plan are the rows of its plan;  text_written  its text is the plan's text
--   load_written      so is the text of an accepted load, whose node is the plan's
use mathlib.Core.Bool.{Bool, true, false, So, cond}
use mathlib.Core.List.{List, [], ◌∷◌, ◌++◌, map, append_assoc, append-nil}
use mathlib.Core.Path.{◌≡◌, refl, sym, subst, ap, ◌∙◌}
use Prim.Native.Nat.{ℕ, ◌+◌, ◌≤◌}
use native.Mathlib.Omega.{arith}
use borrow.Author.Tests.{eqb-true, le-leb}
use lib.Dec.{eqb, ltb}
use lib.ListN.{length, length-map}
use Rattle.node.specs.declared.Op.{Op}
use Rattle.node.specs.declared.ProcessNumber.{ProcessNumber}
use Rattle.node.specs.declared.Start.{Start}
use Rattle.node.proofs.Lists.{map_append}
use Rattle.rules.specs.Answers.{Answer, done}
use Rattle.rules.specs.Behaviours.{Instruction, instruction}
use Rattle.rules.proofs.All.{both, parts}
use Rattle.text.specs.Parts.{Lines, line_then, lines_of}
use Rattle.text.specs.Writing.{each}
use Rattle.plan_line.specs.Lines.{Start as ReadStart}
use Rattle.plan_line.specs.Lines.{behaviours_key, code_key, starts_key, header, header_line, count_line, op_line, start_line}
use Rattle.plan.specs.Plans.{Loaded, Plan, before_first, last_from, more, start_more, code_lines, start_lines, plan_lines}
use Rattle.plan.specs.Plans.{misplaced, node_of, refused_load, text_too_long, ill_placed, checked, loaded_from, load_of}
use Rattle.plan.specs.Reading.{Left, Read, bad, good, on_line, times, end_of}
use Rattle.plan.proofs.Kept.{PlanKept, then_good, line_good, times_good, count_read, end_good, plan_kept}
use Rattle.plan.proofs.Refusals.{Bounded, plan_bounded}
use Rattle.plan.proofs.Whole.{count_in, codes_in, starts_in, ends_in}
use Rattle.plan_writer.specs.Answers.{start_fits, starts_rise, starts_sound}
use Rattle.plan_writer.specs.Texts.{numbered, op_row, code_rows, codes_rows, start_row, plan_rows, ended, plan_text}
use Rattle.round_trip.proofs.StartedNodes.{as_start}
use Rattle.round_trip.proofs.WriteLines.{lines_written, header_written, count_written, start_written}
use Rattle.round_trip.proofs.WriteOps.{op_written}

-- ---- lines, read one behind another

-- between l and k these rows were read
record Took (l : Left) (rows : List (List ℕ)) (k : Left) : Type 0 where
  whole : l.text.whole ≡ rows ++ k.text.whole
  rest : l.text.rest ≡ k.text.rest

took_more : (rows next : List (List ℕ)) {l m k : Left} → Took l rows m → Took m next k → Took l (rows ++ next) k
took_more rows next {k = k} a b = record {
  whole = a.whole ∙ ap (λ (ls : List (List ℕ)). rows ++ ls) b.whole ∙ sym (append_assoc rows next k.text.whole);
  rest = a.rest ∙ b.rest;
}

line_took : {A : Type 0} (f : List ℕ → Answer A) (l : Left) {a : A} {k : Left} → on_line f l ≡ good a k → (row : List ℕ) → ((line : List ℕ) → f line ≡ done a → line ≡ row) → Took l (row ∷ []) k
unfolding line_then
line_took f l {k = k} e row is =
    let w = line_good f l e in
    record { whole = ap (λ (ls : Lines). ls.whole) w.2 ∙ ap (λ (line : List ℕ). line ∷ k.text.whole) (is w.0 w.1); rest = ap (λ (ls : Lines). ls.rest) w.2 }

count_took : (key : List ℕ) (low high : ℕ) (l : Left) {n : ℕ} {k : Left} → high ≤ 255 → on_line (count_line key low high) l ≡ good n k → Took l (numbered key n ∷ []) k
count_took key low high l {n} h e = line_took (count_line key low high) l e (numbered key n) (λ line. count_written key low high line h)

-- each reading takes the rows of what it reads
module _ {A : Type 0} (row : A → List (List ℕ)) (rows : List A → List (List ℕ)) (none : rows [] ≡ []) (join : (xs : List A) (x : A) → rows (xs ++ (x ∷ [])) ≡ rows xs ++ row x)
    (f : List A → Left → Read A) (takes : (xs : List A) (l : Left) (x : A) (k : Left) → f xs l ≡ good x k → Took l (row x) k) where
  times_took : (n : ℕ) (l : Left) {zs : List A} {k : Left} → times n (λ (ys : List A). more (f ys) ys) [] l ≡ good zs k → (length zs ≡ n) × Took l (rows zs) k
  times_took n l e =
      times_good f (λ xs k. Took l (rows xs) k)
      (λ xs m x k g h. subst (λ (rs : List (List ℕ)). Took l rs k) (sym (join xs x)) (took_more (rows xs) (row x) h (takes xs m x k g)))
      n l e (record { whole = ap (λ (rs : List (List ℕ)). rs ++ l.text.whole) (sym none); rest = refl })

-- a row for each
module _ {A B : Type 0} (g : A → B) (row : B → List ℕ) where
  rows_join : (xs : List A) (x : A) → map row (map g (xs ++ (x ∷ []))) ≡ map row (map g xs) ++ (row (g x) ∷ [])
  rows_join xs x = ap (map row) (map_append g xs (x ∷ [])) ∙ map_append row (map g xs) (g x ∷ [])

  lines_took : (f : List A → List ℕ → Answer A) → ((xs : List A) (line : List ℕ) (x : A) → f xs line ≡ done x → line ≡ row (g x))
      → (n : ℕ) (l : Left) {zs : List A} {k : Left} → times n (λ (ys : List A). more (on_line (f ys)) ys) [] l ≡ good zs k → (length zs ≡ n) × Took l (map row (map g zs)) k
  lines_took f is =
      times_took (λ x. row (g x) ∷ []) (λ xs. map row (map g xs)) refl rows_join (λ xs. on_line (f xs)) (λ xs l x k e. line_took (f xs) l e (row (g x)) (λ line. is xs line x))

-- ---- codes

codes_join : (xs ys : List (List Instruction)) → codes_rows (xs ++ ys) ≡ codes_rows xs ++ codes_rows ys
unfolding codes_rows
codes_join [] ys = refl
codes_join (x ∷ xs) ys = ap (λ (rs : List (List ℕ)). code_rows x ++ rs) (codes_join xs ys) ∙ sym (append_assoc (code_rows x) (codes_rows xs) (codes_rows ys))

abbrev codes_text : List (List Op) → List (List ℕ)
codes_text codes = codes_rows (map (map instruction) codes)

code_join : (codes : List (List Op)) (code : List Op) → codes_text (codes ++ (code ∷ [])) ≡ codes_text codes ++ code_rows (map instruction code)
unfolding codes_rows
code_join codes code =
    ap codes_rows (map_append (map instruction) codes (code ∷ [])) ∙ codes_join (map (map instruction) codes) (map instruction code ∷ [])
    ∙ ap (λ (rs : List (List ℕ)). codes_text codes ++ rs) (append-nil (code_rows (map instruction code)))

module _ (c : ℕ) (few : c ≤ 255) where
  code_written : (l : Left) {code : List Op} {k : Left} → code_lines c l ≡ good code k → Took l (code_rows (map instruction code)) k
  unfolding code_lines code_rows
  code_written l {code} {k} e =
      let w = then_good (on_line (count_line code_key 1 32) l) (λ (n : ℕ) (r : Left). times n (more (on_line (op_line c n))) [] r) e in
      let n = w.0 in
      let short = (count_read code_key 1 32 l w.2).1 in
      let ops = lines_took instruction op_row (λ os. op_line c n) (λ os line o. op_written c n line few (omega (arith, short))) n w.1 w.3 in
      let size : length (map instruction code) ≡ n = length-map code instruction ∙ ops.0 in
      rw size (took_more (numbered code_key n ∷ []) (map op_row (map instruction code)) (count_took code_key 1 32 l (omega arith) w.2) ops.1)

  codes_written : (n : ℕ) (l : Left) {codes : List (List Op)} {k : Left} → times n (more (code_lines c)) [] l ≡ good codes k → (length codes ≡ n) × Took l (codes_text codes) k
  unfolding codes_rows
  codes_written = times_took (λ code. code_rows (map instruction code)) codes_text refl code_join (λ codes. code_lines c) (λ codes l code k. code_written l)

  -- ---- starts

  rise_more : (i : ProcessNumber) (xs : List ReadStart) (s : ReadStart) → So (starts_rise c i.0 (map as_start xs)) → So (start_fits c (last_from i xs).0 (as_start s))
      → So (starts_rise c i.0 (map as_start (xs ++ (s ∷ []))))
  unfolding starts_rise
  rise_more i [] s h g = both g refl
  rise_more i (x ∷ xs) s h g =
      let w = parts (start_fits c i.0 (as_start x)) (starts_rise c x.process.0 (map as_start xs)) h in
      both w.0 (rise_more x.process xs s w.1 g)

  starts_written : (l : Left) {starts : List ReadStart} {k : Left} → start_lines c l ≡ good starts k
      → Took l (numbered starts_key (length (map as_start starts)) ∷ map start_row (map as_start starts)) k × So (starts_sound c (map as_start starts))
  unfolding start_lines starts_rise
  starts_written l {starts} {k} e =
      let w = then_good (on_line (count_line starts_key 1 16) l) (λ (n : ℕ) (r : Left). times n (start_more c) [] r) e in
      let n = w.0 in
      let size = count_read starts_key 1 16 l w.2 in
      let line : List ReadStart → List ℕ → Answer ReadStart = λ ss. start_line c (last_from before_first ss) in
      let rows = lines_took as_start start_row line (λ ss r s g. (start_written c (last_from before_first ss) r few g).0) n w.1 w.3 in
      let rise = times_good (λ ss. on_line (line ss)) (λ ss r. So (starts_rise c 0 (map as_start ss)))
      (λ ss r s q g h. let read = line_good (line ss) r g in rise_more before_first ss s h (start_written c (last_from before_first ss) read.0 few read.1).2) n w.1 w.3 refl in
      let is : length (map as_start starts) ≡ n = length-map starts as_start ∙ rows.0 in
      rw is (
        took_more (numbered starts_key n ∷ []) (map start_row (map as_start starts)) (count_took starts_key 1 16 l (omega arith) w.2) rows.1,
        both (both (le-leb 1 n size.0) (le-leb n 16 size.1)) rise.1,
      )

-- ---- the whole

abbrev plan_codes : Plan → List (List Instruction)
plan_codes p = map (map instruction) p.codes

abbrev plan_starts : Plan → List Start
plan_starts p = map as_start p.starts

abbrev RowsOf : Left → Plan → Type 0
RowsOf l p = (l.text.whole ≡ plan_rows (plan_codes p) (plan_starts p)) × (l.text.rest ≡ []) × So (starts_sound (length p.codes) (plan_starts p))

pub rows_written : (l : Left) {p : Plan} {k : Left} → plan_lines l ≡ good p k
    → (l.text.whole ≡ plan_rows (map (map instruction) p.codes) (map as_start p.starts)) × (l.text.rest ≡ [])
    × So (starts_sound (length p.codes) (map as_start p.starts))
unfolding plan_lines end_of plan_rows
rows_written l {p} {k} e =
    let w = then_good (on_line header_line l) count_in e in
    let x = then_good (on_line (count_line behaviours_key 1 8) w.1) codes_in w.3 in
    let c = x.0 in
    let y = then_good (times c (more (code_lines c)) [] x.1) (starts_in c) x.3 in
    let z = then_good (start_lines c y.1) (ends_in y.0) y.3 in
    let end = end_good _ z.1 z.1.text.whole z.1.text.rest z.3 in
    let few : c ≤ 255 = omega (arith, (count_read behaviours_key 1 8 w.1 x.2).1) in
    let first = line_took header_line l w.2 header (λ line. header_written line) in
    let count = count_took behaviours_key 1 8 w.1 (omega arith) x.2 in
    let codes = codes_written c few c x.1 y.2 in
    let starts = starts_written c few y.1 z.2 in
    let rows = numbered starts_key (length (map as_start z.0)) ∷ map start_row (map as_start z.0) in
    let all = took_more _ rows (took_more _ (codes_text y.0) (took_more (header ∷ []) (numbered behaviours_key c ∷ []) first count) codes.1) starts.0 in
    let size : c ≡ length (map (map instruction) y.0) = sym (length-map y.0 (map instruction) ∙ codes.0) in
    subst (RowsOf l) end.0 (
      all.whole ∙ (λ i. (header ∷ numbered behaviours_key (size i) ∷ codes_text y.0) ++ rows ++ end.1 i) ∙ append-nil _,
      all.rest ∙ end.2,
      subst (λ (m : ℕ). So (starts_sound m (map as_start z.0))) (sym codes.0) starts.1,
    )

pub text_written : (text : List ℕ) {p : Plan} {k : Left} → plan_lines (record { text = lines_of text; first = 1 }) ≡ good p k
    → text ≡ plan_text (map (map instruction) p.codes) (map as_start p.starts)
unfolding plan_text
text_written text {p} e =
    let w = rows_written (record { text = lines_of text; first = 1 }) e in
    sym (lines_written text) ∙ (λ i. each ended (w.0 i) ++ w.1 i) ∙ append-nil (each ended (plan_rows (plan_codes p) (plan_starts p)))

-- ---- a load

abbrev WrittenAs : List ℕ → Loaded → Type 0
WrittenAs text r =
    r.number ≡ 0 → (p : Plan) × (r.node ≡ node_of p) × PlanKept p × (text ≡ plan_text (plan_codes p) (plan_starts p)) × So (starts_sound (length p.codes) (plan_starts p))
    × (misplaced (node_of p) ≡ 0)

refused_written : (text : List ℕ) (k line : ℕ) → 1 ≤ k → WrittenAs text (refused_load k line)
unfolding refused_load
refused_written text k line h e = absurd (omega (arith, h, e))

read_written : (text : List ℕ) (r : Read Plan) → plan_lines (record { text = lines_of text; first = 1 }) ≡ r → WrittenAs text (loaded_from r)
unfolding checked
read_written text (bad k n) e =
    let all : Left = record { text = lines_of text; first = 1 } in
    refused_written text k n (subst (Bounded (1 + length all.text.whole)) e (plan_bounded _ all (omega arith))).0
read_written text (good p k) e = go (eqb (misplaced (node_of p)) 0) refl
  where
    go : (t : Bool) → eqb (misplaced (node_of p)) 0 ≡ t → WrittenAs text (cond t (record { number = 0; line = 0; node = node_of p }) (refused_load ill_placed (misplaced (node_of p))))
    go true h g = (p, refl, plan_kept _ e, text_written text e, (rows_written _ e).2, eqb-true (misplaced (node_of p)) 0 h)
    go false h g = refused_written text ill_placed (misplaced (node_of p)) (omega arith) g

pub load_written : (text : List ℕ) → (load_of text).number ≡ 0 → (p : Plan) × ((load_of text).node ≡ node_of p) × PlanKept p
    × (text ≡ plan_text (map (map instruction) p.codes) (map as_start p.starts)) × So (starts_sound (length p.codes) (map as_start p.starts))
    × (misplaced (node_of p) ≡ 0)
unfolding load_of
load_written text = go (ltb 16384 (length text))
  where
    go : (t : Bool) → WrittenAs text (cond t (refused_load text_too_long 0) (loaded_from (plan_lines (record { text = lines_of text; first = 1 }))))
    go true = refused_written text text_too_long 0 (omega arith)
    go false = read_written text (plan_lines (record { text = lines_of text; first = 1 })) refl
