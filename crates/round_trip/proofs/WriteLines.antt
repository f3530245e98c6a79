-- A text is its parts with the byte between them that cuts it, and each line of a plan that is accepted is the row that is written of its
-- result. Assumes nothing.
--   joined c ps                   parts with the byte c between
--   parts_written lines_written   a text of its parts, and of its lines
--   key_cases                     what is read behind a key, by what stands there
--   header_written count_written start_written   the lines `plan=1`, of a key and a number, and `start=`
use mathlib.Core.Bool.{Bool, true, false, So, cond}
use mathlib.Core.List.{List, [], ◌∷◌, ◌++◌, append_assoc, append-nil}
use mathlib.Core.Path.{◌≡◌, refl, sym, subst, ap, ◌∙◌}
use Prim.Native.Nat.{ℕ, ◌≤◌}
use Prim.Native.Char.{code}
use native.Mathlib.Omega.{arith}
use borrow.Author.Tests.{eqb-true, eqb-false, ne_eqb, le-leb}
use lib.Dec.{eqb, ltb}
use lib.ListN.{length, drop}
use lib.Seq.{append_snoc}
use Rattle.node.specs.declared.ProcessNumber.{ProcessNumber}
use Rattle.node.specs.Texts.{bytes}
use Rattle.rules.specs.Answers.{done}
use Rattle.rules.proofs.All.{both}
use Rattle.text.specs.Numbers.{malformed, number_of, Ranged, no_number, ranged_of}
use Rattle.text.specs.Parts.{line_byte, in_front, split, fields_of, line_then, last_apart, lines_of, equal, starts_with}
use Rattle.text.specs.Writing.{digits, each}
use Rattle.text.proofs.Parts.{equal_true, split_some}
use Rattle.plan_line.specs.Lines.{Start}
use Rattle.plan_line.specs.Lines.{header, start_key, not_rising, behind_key, header_told, count_told, header_line, count_line, no_start, start_of, risen, start_told, start_line}
use Rattle.plan_line.proofs.Ranges.{worse_none, start_kept_lem}
use Rattle.plan_line.proofs.Told.{answered_done}
use Rattle.plan_writer.specs.Answers.{start_fits}
use Rattle.plan_writer.specs.Texts.{numbered, start_row, ended}
use Rattle.round_trip.proofs.WriteNumbers.{starts_written, ranged_written}

-- ---- parts
abbrev pub joined : ℕ → List (List ℕ) → List ℕ
joined c [] = []
joined c (p ∷ ps) = p ++ each (λ (q : List ℕ). c ∷ q) ps

front_joined : (c b : ℕ) (t : Bool) → eqb b c ≡ t → (p : List ℕ) (ps : List (List ℕ)) → joined c (in_front t b (p ∷ ps)) ≡ b ∷ joined c (p ∷ ps)
unfolding in_front each
front_joined c b true e p ps = rw (eqb-true b c e)
front_joined c b false e p ps = refl

pub parts_written : (c : ℕ) (l : List ℕ) → joined c (split c l) ≡ l
unfolding split each
parts_written c [] = refl
parts_written c (b ∷ l) =
    let q = split_some c l in
    let is : joined c (q.0 ∷ q.1) ≡ l = rw q.2 at (parts_written c l) in
    rw q.2 (front_joined c b (eqb b c) refl q.0 q.1 ∙ ap (λ (r : List ℕ). b ∷ r) is)

lines_joined : (p : List ℕ) (ps : List (List ℕ)) → each ended (last_apart (p ∷ ps)).whole ++ (last_apart (p ∷ ps)).rest ≡ joined line_byte (p ∷ ps)
unfolding last_apart line_then each
lines_joined p [] = sym (append-nil p)
lines_joined p (q ∷ ps) =
    let ls = last_apart (q ∷ ps) in
    append_assoc (ended p) (each ended ls.whole) ls.rest
    ∙ append_snoc p line_byte (each ended ls.whole ++ ls.rest)
    ∙ ap (λ (r : List ℕ). p ++ line_byte ∷ r) (lines_joined q ps)

pub lines_written : (text : List ℕ) → each ended (lines_of text).whole ++ (lines_of text).rest ≡ text
unfolding lines_of
lines_written text =
    let q = split_some line_byte text in
    rw q.2 (lines_joined q.0 q.1 ∙ ap (joined line_byte) (sym q.2) ∙ parts_written line_byte text)

-- ---- lines with a key
pub key_cases : {A : Type 0} (P : A → Type 0) (key : List ℕ) (wrong : A) (f : List ℕ → A) (line : List ℕ)
    → P wrong → ((l : List ℕ) → line ≡ key ++ l → P (f l)) → P (behind_key key wrong f line)
key_cases P key wrong f line none some = go (starts_with key line) refl
  where
    go : (t : Bool) → starts_with key line ≡ t → P (cond t (f (drop (length key) line)) wrong)
    go true e = some (drop (length key) line) (starts_written key line e)
    go false e = none

header_by : (line : List ℕ) (t : Bool) → equal line header ≡ t → cond t 0 malformed ≡ 0 → line ≡ header
header_by line true e h = equal_true line header e
header_by line false e h = absurd (omega (arith, h))

pub header_written : (line : List ℕ) {x : ℕ} → header_line line ≡ done x → line ≡ header
unfolding header_line header_told
header_written line {x} e = header_by line (equal line header) refl (answered_done (header_told line) 1 x e).0

count_told_lem : (key : List ℕ) (low high : ℕ) (line : List ℕ) → high ≤ 255 → (count_told key low high line).refusal ≡ 0 → line ≡ numbered key (count_told key low high line).number
unfolding count_told
count_told_lem key low high line h =
    key_cases (λ (x : Ranged). x.refusal ≡ 0 → line ≡ numbered key x.number) key (no_number malformed) (λ l. ranged_of (number_of l) low high) line
    (λ e. absurd (omega (arith, e)))
    (λ l q e. q ∙ ap (λ (r : List ℕ). key ++ r) (ranged_written l low high h e))

pub count_written : (key : List ℕ) (low high : ℕ) (line : List ℕ) {n : ℕ} → high ≤ 255 → count_line key low high line ≡ done n → line ≡ numbered key n
unfolding count_line
count_written key low high line {n} h e =
    let x = count_told key low high line in
    let a = answered_done x.refusal x.number n e in
    rw a.1 at (count_told_lem key low high line h a.0)

-- ---- starts
abbrev pair_text : Start → List ℕ
pair_text s = digits s.process.0 ++ bytes "," ++ digits s.behaviour.0

pair_written : (c : ℕ) (fields : List (List ℕ)) → c ≤ 255 → (start_of c fields).refusal ≡ 0 → joined (code ",") fields ≡ pair_text (start_of c fields)
unfolding start_of each
pair_written c [] h e = absurd (omega (arith, e))
pair_written c (p ∷ []) h e = absurd (omega (arith, e))
pair_written c (p ∷ q ∷ []) h e =
    let w = worse_none (ranged_of (number_of p) 1 16).refusal (ranged_of (number_of q) 1 c).refusal e in
    let i = ranged_written p 1 16 (omega arith) w.0 in
    let b = ranged_written q 1 c h w.1 in
    rw (append-nil, ← i, ← b) (sym (append_snoc p (code ",") q))
pair_written c (p ∷ q ∷ r ∷ fields) h e = absurd (omega (arith, rw (ne_eqb (length (p ∷ q ∷ r ∷ fields)) 2 (λ x. omega (arith, x))) at e))

-- a start that is accepted: its line, and its place behind the last
abbrev Rises : ProcessNumber → List ℕ → Start → Type 0
Rises last line s = s.refusal ≡ 0 → (line ≡ start_key ++ pair_text s) × So (ltb last.0 s.process.0)

risen_by : (last : ProcessNumber) (line : List ℕ) (s : Start) → (s.refusal ≡ 0 → line ≡ start_key ++ pair_text s) → Rises last line (risen last s)
unfolding risen
risen_by last line s is = go (eqb s.refusal 0) (ltb last.0 s.process.0) refl refl
  where
    go : (t u : Bool) → eqb s.refusal 0 ≡ t → ltb last.0 s.process.0 ≡ u → Rises last line (cond t (cond u s (no_start not_rising)) s)
    go true true p q e = (is e, q)
    go true false p q e = absurd (omega (arith, e))
    go false u p q e = absurd (eqb-false s.refusal 0 p e)

start_told_lem : (c : ℕ) (last : ProcessNumber) (line : List ℕ) → c ≤ 255 → Rises last line (start_told c last line)
unfolding start_told fields_of
start_told_lem c last line h =
    key_cases (Rises last line) start_key (no_start malformed) (λ l. risen last (start_of c (fields_of l))) line
    (λ e. absurd (omega (arith, e)))
    (λ l q. risen_by last line (start_of c (fields_of l))
    (λ e. q ∙ ap (λ (r : List ℕ). start_key ++ r) (sym (parts_written (code ",") l) ∙ pair_written c (fields_of l) h e)))

pub start_written : (c : ℕ) (last : ProcessNumber) (line : List ℕ) {s : Start} → c ≤ 255 → start_line c last line ≡ done s
    → (line ≡ start_row (record { process = s.process; behaviour = s.behaviour })) × (s.refusal ≡ 0)
    × So (start_fits c last.0 (record { process = s.process; behaviour = s.behaviour }))
unfolding start_line start_row
start_written c last line {s} h e =
    let x = start_told c last line in
    let a = answered_done x.refusal x s e in
    let told = start_told_lem c last line h a.0 in
    let kept = start_kept_lem c last line in
    let row : line ≡ start_key ++ digits x.process.0 ++ bytes "," ++ digits x.behaviour.0 = told.0 ∙ simp append_assoc in
    let fits = both (both told.1 (le-leb _ 16 kept.process)) (both (le-leb 1 _ (kept.least a.0)) (le-leb _ c (kept.most a.0))) in
    subst (λ (y : Start). (line ≡ start_row (record { process = y.process; behaviour = y.behaviour })) × (y.refusal ≡ 0)
    × So (start_fits c last.0 (record { process = y.process; behaviour = y.behaviour }))) a.1 (row, a.0, fits)
