-- Laws of reading steps text: what one line is, and what is known of a text behind some of its lines. Assumes nothing.
--   pack_first pack_second pack_done   a step's two numbers: the first or the second is refused, or both are read
--   line_run line_arrive line_timeout line_other   the answers for one line
--   So                                the lines before the rest of a text are steps, which are stored
--   so_room                           the steps are 4,096 entries
--   so_none so_more                   at the start, and behind one line more
--   so_unended so_malformed so_over so_all   the answers of `read`
use mathlib.Core.Bool.{Bool, true, false, cond, and-false}
use mathlib.Core.List.{List, [], ◌∷◌, ◌++◌, map, append_assoc}
use mathlib.Core.Path.{◌≡◌, refl, ap, ◌∙◌}
use Prim.Native.Nat.{ℕ, zero, suc, ◌+◌, ◌-◌, ◌≤◌, ◌<◌}
use native.Mathlib.Omega.{arith}
use borrow.Author.Tests.{lt-ltb, le-ltb}
use lib.Dec.{eqb}
use lib.ListN.{length, take, drop, get_or, set, replicate, length-append}
use Rattle.std.specs.Borrow.{Bor}
use Rattle.std.specs.Prelude.{Option, Some, None, MatchOption}
use Rattle.node.specs.Lists.{firsts}
use Rattle.node.proofs.Lists.{firsts_length}
use Rattle.rules.specs.Answers.{Answer, refused, done, schedule_too_long}
use Rattle.text.specs.Numbers.{Ranged}
use Rattle.text.specs.Parts.{Lines, line_then, lines_of, fields_of, starts_with}
use Rattle.text.proofs.Ended.{Piece, ended, ended_line, unended_line}
use Rattle.text.proofs.Parts.{drop_at, lines_none}
use Rattle.schedule.specs.Reading.{Schedule, malformed_line, byte_told, packed_step, packed_of, own_of, arrival_of, run_key, arrive_key, timeout_key, step_of, line_of}
use Rattle.schedule.specs.Reading.{read_lines, first_malformed, steps_of, refused_text, accepted_steps, of_lines, schedule_of}

-- ---- the numbers of a line
told_none : (x : Ranged) → None ≡ byte_told x → eqb x.refusal 0 ≡ false
told_none x e = go (eqb x.refusal 0) e
  where
    go : (t : Bool) → None ≡ cond t (Some x.number) None → t ≡ false
    go true e = let no : ⊥ = cc in absurd no
    go false e = refl

told_some : (x : Ranged) {n : ℕ} → Some n ≡ byte_told x → (eqb x.refusal 0 ≡ true) × (n ≡ x.number)
told_some x {n} e = go (eqb x.refusal 0) e
  where
    go : (t : Bool) → Some n ≡ cond t (Some x.number) None → (t ≡ true) × (n ≡ x.number)
    go true e = (refl, cc)
    go false e = let no : ⊥ = cc in absurd no

module _ (kind : ℕ) (i j : Ranged) where
  pub pack_first : None ≡ byte_told i → refused malformed_line ≡ packed_of kind i j
  unfolding packed_of
  pack_first e = rw (told_none i e)

  pub pack_second : None ≡ byte_told j → refused malformed_line ≡ packed_of kind i j
  unfolding packed_of
  pack_second e = rw (told_none j e, and-false (eqb i.refusal 0))

  pub pack_done : {m n : ℕ} → Some m ≡ byte_told i → Some n ≡ byte_told j → done (packed_step kind m n) ≡ packed_of kind i j
  unfolding packed_of
  pack_done e f = let p = told_some i e in let q = told_some j f in rw (p.0, q.0, p.1, q.1)

-- ---- one line
module _ (line : List ℕ) where
  pub line_run : {x : Answer ℕ} → starts_with run_key line ≡ true → x ≡ own_of 0 (drop 4 line) → x ≡ step_of line
  unfolding step_of
  line_run e q = rw e q

  module _ (no : starts_with run_key line ≡ false) where
    pub line_arrive : {x : Answer ℕ} → starts_with arrive_key line ≡ true → x ≡ arrival_of (fields_of (drop 7 line)) → x ≡ step_of line
    unfolding step_of
    line_arrive e q = rw (no, e) q

    module _ (other : starts_with arrive_key line ≡ false) where
      pub line_timeout : {x : Answer ℕ} → starts_with timeout_key line ≡ true → x ≡ own_of 2 (drop 8 line) → x ≡ step_of line
      unfolding step_of
      line_timeout e q = rw (no, other, e) q

      pub line_other : starts_with timeout_key line ≡ false → refused malformed_line ≡ step_of line
      unfolding step_of
      line_other e = rw (no, other, e)

-- ---- lines that are steps
-- one step more is stored behind the others, as long as there is room
firsts_more : (n : ℕ) (l : List ℕ) (x : ℕ) → set (firsts 0 n l) (length l) x ≡ firsts 0 n (l ++ (x ∷ []))
firsts_more zero [] x = refl
firsts_more zero (y ∷ l) x = refl
firsts_more (suc n) [] x = refl
firsts_more (suc n) (y ∷ l) x = ap (λ (r : List ℕ). y ∷ r) (firsts_more n l x)

map_more : (l : List ℕ) (x : ℕ) → map done (l ++ (x ∷ [])) ≡ map done l ++ (done x ∷ [])
map_more [] x = refl
map_more (y ∷ l) x = ap (λ (r : List (Answer ℕ)). done y ∷ r) (map_more l x)

steps_malformed : (l : List ℕ) (n : ℕ) (ls : List (Answer ℕ)) → first_malformed n (map done l ++ (refused malformed_line ∷ ls)) ≡ n + length l
unfolding first_malformed
steps_malformed [] n ls = omega arith
steps_malformed (x ∷ l) n ls = steps_malformed l (n + 1) ls ∙ omega arith

steps_good : (l : List ℕ) (n : ℕ) → first_malformed n (map done l ++ []) ≡ 0
unfolding first_malformed
steps_good [] n = refl
steps_good (x ∷ l) n = steps_good l (n + 1)

steps_all : (l : List ℕ) → steps_of (map done l ++ []) ≡ l
unfolding steps_of
steps_all [] = refl
steps_all (x ∷ l) = ap (λ (r : List ℕ). x ∷ r) (steps_all l)

steps_length : (l : List ℕ) → length (map done l ++ []) ≡ length l
steps_length [] = refl
steps_length (x ∷ l) = ap suc (steps_length l)

accepted : {steps : List ℕ} {count : ℕ} (l : List ℕ) → length l ≡ count → steps ≡ firsts 0 4096 l → record { number = 0; line = 0; count = count; steps = steps } ≡ accepted_steps l
unfolding accepted_steps
accepted l e f = cc

-- ---- a text, of which `rest` is left
pub record So (text : List ℕ) (steps : List ℕ) (count : ℕ) (rest : List ℕ) : Type 0 where
  -- the steps of the lines before the rest
  pub earlier : List ℕ
  pub counted : length earlier ≡ count
  pub stored : steps ≡ firsts 0 4096 earlier
  pub left : read_lines (lines_of text) ≡ map done earlier ++ read_lines (lines_of rest)
  -- each of them has its byte 10
  pub few : count + length rest ≤ length text

pub so_none : (text : List ℕ) → So text (replicate 4096 0) 0 text
so_none text = record { earlier = []; counted = refl; stored = refl; left = refl; few = omega arith }

module _ {text steps : List ℕ} {count : ℕ} {rest : List ℕ} (so : So text steps count rest) where
  pub so_room : length steps ≡ 4096
  so_room = ap length so.stored ∙ firsts_length 0 4096 so.earlier

  behind : (ls : Lines) → lines_of rest ≡ ls → read_lines (lines_of text) ≡ map done so.earlier ++ read_lines ls
  behind ls e = so.left ∙ ap (λ (x : Lines). map done so.earlier ++ read_lines x) e

  malformed_at : (ls : List (Answer ℕ)) {r : Schedule} → length text ≤ 61440 → read_lines (lines_of text) ≡ map done so.earlier ++ (refused malformed_line ∷ ls)
      → r ≡ refused_text malformed_line (count + 1) → r ≡ schedule_of text
  unfolding schedule_of of_lines
  malformed_at ls w e p =
      let f : first_malformed 1 (read_lines (lines_of text)) ≡ count + 1 =
      ap (first_malformed 1) e ∙ steps_malformed so.earlier 1 ls ∙ omega (arith, so.counted) in
      simp (le-ltb _ _ w, f, lt-ltb 0 (count + 1) (omega arith)) p

  -- the next line, with its byte 10 or without
  module _ {line more : List ℕ} (piece : Piece rest line more) where
    pub so_unended : {r : Schedule} → length text ≤ 61440 → ended piece ≡ false → r ≡ refused_text malformed_line (count + 1) → r ≡ schedule_of text
    unfolding read_lines
    so_unended w e p = let some : rest ≡ get_or rest 0 0 ∷ drop 1 rest = drop_at rest 0 piece.some in
        malformed_at [] w (behind _ (unended_line piece e) ∙ rw some refl) p

    module _ (e : ended piece ≡ true) {x : Answer ℕ} (is : x ≡ step_of (take (length line - 1) line)) where
      next : read_lines (lines_of text) ≡ map done so.earlier ++ (x ∷ read_lines (lines_of more))
      unfolding read_lines line_then
      next = behind _ (ended_line piece e) ∙ rw (← is)

      pub so_malformed : {r : Schedule} → length text ≤ 61440 → x ≡ refused malformed_line → r ≡ refused_text malformed_line (count + 1) → r ≡ schedule_of text
      so_malformed w y p = malformed_at _ w (next ∙ ap (λ (z : Answer ℕ). map done so.earlier ++ (z ∷ read_lines (lines_of more))) y) p

      pub so_more : {s : ℕ} {steps' : List ℕ} → x ≡ done s → steps' ≡ set steps count s → So text steps' (count + 1) more
      so_more {s} y p = record {
        earlier = so.earlier ++ (s ∷ []);
        counted = length-append so.earlier (s ∷ []) ∙ omega (arith, so.counted);
        stored = p ∙ rw (so.stored, ← so.counted) (firsts_more 4096 so.earlier s);
        left = next ∙ rw (y, map_more so.earlier s, append_assoc);
        few = omega (arith, so.few, piece.size, piece.some, ap length piece.all, length-append line more);
      }

    -- the line without its byte 10, if it has one, and what is read of it
    abbrev pub Cut : Option (Bor (List ℕ)) → Type 0
    Cut o = MatchOption o (ended piece ≡ false) (λ x. (ended piece ≡ true) × (x.now ≡ take (length line - 1) line) × (length x.now + 1 ≡ length line))

    abbrev pub Got : Option (Bor (List ℕ)) → Option ℕ → Type 0
    Got o r = MatchOption o (r ≡ None) (λ x. line_of r ≡ step_of x.now)

    pub so_refused : (o : Option (Bor (List ℕ))) {r : Option ℕ} {s : Schedule} → length text ≤ 61440 → Cut o → Got o r → r ≡ None
        → s ≡ refused_text malformed_line (count + 1) → s ≡ schedule_of text
    so_refused None w c g e p = so_unended w c p
    so_refused (Some x) w c g e p = so_malformed c.0 (rw (e, c.1) at g) w refl p

    pub so_step : (o : Option (Bor (List ℕ))) {r : Option ℕ} {s : ℕ} {steps' : List ℕ} → Cut o → Got o r → r ≡ Some s
        → steps' ≡ set steps count s → So text steps' (count + 1) more
    so_step None c g e p = let no : ⊥ = cc in absurd no
    so_step (Some x) c g e p = so_more c.0 (rw (e, c.1) at g) refl p

  module _ (w : length text ≤ 61440) (end : length rest ≡ 0) where
    all_steps : read_lines (lines_of text) ≡ map done so.earlier ++ []
    unfolding read_lines
    all_steps = behind _ (lines_none {at = 0} rest (omega (arith, end)))

    pub so_over : {r : Schedule} → 4096 < count → r ≡ refused_text schedule_too_long 0 → r ≡ schedule_of text
    unfolding schedule_of of_lines
    so_over m p =
        let n : length (map done so.earlier ++ []) ≡ count = steps_length so.earlier ∙ so.counted in
        simp (le-ltb _ _ w, all_steps, steps_good so.earlier 1, n, lt-ltb _ _ m) p

    pub so_all : {r : Schedule} → count ≤ 4096 → r ≡ record { number = 0; line = 0; count = count; steps = steps } → r ≡ schedule_of text
    unfolding schedule_of of_lines
    so_all m p =
        let n : length (map done so.earlier ++ []) ≡ count = steps_length so.earlier ∙ so.counted in
        p ∙ accepted so.earlier so.counted so.stored
        ∙ rw (le-ltb _ _ w, all_steps, steps_good so.earlier 1, n, le-ltb _ _ m, steps_all so.earlier)
