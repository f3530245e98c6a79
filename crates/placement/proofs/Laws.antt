-- Laws of rule 14 by the ops as they stand in a node, and of the walk that looks for the first op that breaks it. Assumes nothing.
--   placed_recv placed_out placed_in   rule 14 of a recv, of another op that stands out of turn, and of one that does not
--   clauses_few clauses_begin clause_stop clause_more clauses_end   the loop over the clauses of a recv
--   in_begin in_stop in_more in_end       the loop over the ops of a behaviour
--   from_stop from_more from_end          the loop over the behaviours
use Rattle.std.specs.Prelude.{None, Some}
use mathlib.Core.Bool.{Bool, true, false, not, cond, and-true}
use mathlib.Core.List.{List, []}
use mathlib.Core.Path.{◌≡◌, refl, sym, ◌∙◌, ap}
use Prim.Native.Nat.{ℕ, zero, suc, ◌+◌, ◌-◌, ◌*◌, ◌≤◌, ◌<◌}
use native.Mathlib.Numerals.{add-one}
use native.Mathlib.Omega.{arith}
use borrow.Author.Tests.{eq-eqb, ne_eqb, le-leb, lt-leb}
use lib.Dec.{eqb}
use lib.ListN.{length, get_or, take, drop, length-take, length-drop, drop_of_length-le}
use lib.Seq.{drop-cons, get_or-take, get_or-drop}
use Rattle.node.specs.declared.Op.{Op}
use Rattle.node.specs.Lists.{all_from}
use Rattle.node.specs.Nodes.{no_op}
use Rattle.node.specs.Ops.{after_op, clause_op, is_part, kinds_of, recv_op}
use Rattle.node.proofs.Lists.{all_more, all_stop, all_end, all_of_from}
use Rattle.rules.specs.Behaviours.{Instruction, due, has_clauses, in_turn, instruction, is_clause, targets_free, well_placed}
use Rattle.behaviours.specs.Codes.{code_in, has_target}
use Rattle.behaviours.proofs.Codes.{clause_count_lem, code_at, code_length, free_at, free_none, on_part_at}
use Rattle.placement.specs.Misplaced.{line_told, misplaced_in, misplaced_from, or_else}

-- ---- one op

module _ (n : ℕ) (ops : List Op) (k t : ℕ) (h : t < n) {o : Op} (at : o ≡ get_or ops (32 * k + t) no_op) where
  pub op_is : get_or (code_in n ops k) t (instruction no_op) ≡ instruction o
  op_is = code_at n ops k t h ∙ ap instruction (sym at)

  recv_free : o.number ≡ recv_op → targets_free (code_in n ops k) (instruction o) ≡ true
  unfolding has_target kinds_of
  recv_free e = sym (free_none (code_in n ops k) o (ap (λ (j : ℕ). cond (has_target j) (Some o.target) None) e))

  -- an op that leads to this one, at a place before the end
  pub free_there : (p : Op) → cond (has_target p.number) (Some p.target) None ≡ Some t → not (is_part o.number) ≡ targets_free (code_in n ops k) (instruction p)
  free_there p e = sym (free_at (code_in n ops k) p t e ∙ ap not (on_part_at n ops k t h ∙ ap (λ (x : Op). is_part x.number) (sym at)))

  module _ {r : Bool} where
    pub placed_recv : o.number ≡ recv_op → r ≡ has_clauses o.small (drop (t + 1) (code_in n ops k)) → r ≡ well_placed (code_in n ops k) t (get_or (code_in n ops k) t (instruction no_op))
    unfolding well_placed instruction
    placed_recv e p = rw op_is (rw (recv_free e, clause_count_lem o e, eq-eqb o.number recv_op e, ap (λ (j : ℕ). eqb j clause_op) e, ap (λ (j : ℕ). eqb j after_op) e)
        (p ∙ sym (and-true _) ∙ sym (and-true _)))

    pub placed_out : (o.number ≡ recv_op → ⊥) → in_turn o.number (due 0 (take t (code_in n ops k))) ≡ false → r ≡ false → r ≡ well_placed (code_in n ops k) t
        (get_or (code_in n ops k) t (instruction no_op))
    unfolding well_placed instruction
    placed_out e d p = rw op_is (rw (ne_eqb o.number recv_op e, d) p)

    pub placed_in : (o.number ≡ recv_op → ⊥) → in_turn o.number (due 0 (take t (code_in n ops k))) ≡ true → r ≡ targets_free (code_in n ops k) (instruction o) → r ≡ well_placed (code_in n ops k) t
        (get_or (code_in n ops k) t (instruction no_op))
    unfolding well_placed instruction
    placed_in e d p = rw op_is (rw (ne_eqb o.number recv_op e, d) p)

-- ---- the clauses of a recv

module _ (n : ℕ) (ops : List Op) (k t m : ℕ) where
  rest : List Instruction
  rest = drop (t + 1) (code_in n ops k)

  rest_length : length rest ≡ n - (t + 1)
  unfolding rest
  rest_length = length-drop (t + 1) (code_in n ops k) ∙ ap (λ (j : ℕ). j - (t + 1)) (code_length n ops k)

  pub clauses_few : {r : Bool} → n - (t + 1) < m → r ≡ false → r ≡ has_clauses m (drop (t + 1) (code_in n ops k))
  unfolding has_clauses rest
  clauses_few h p = p ∙ rw (lt-leb m (length rest) (omega (arith, rest_length)))

  -- what is left behind i clauses
  abbrev pub clauses_from : ℕ → Bool
  clauses_from i = all_from (λ (u : ℕ) (x : Instruction). is_clause x) i (drop i (take m (drop (t + 1) (code_in n ops k))))

  module _ (h : m ≤ n - (t + 1)) where
    clauses_length : length (take m rest) ≡ m
    clauses_length = omega (arith, length-take m rest, rest_length)

    pub clauses_begin : has_clauses m (drop (t + 1) (code_in n ops k)) ≡ clauses_from 0
    unfolding has_clauses rest
    clauses_begin = rw (le-leb m (length rest) (omega (arith, rest_length))) (all_of_from is_clause 0 (take m rest))

    module _ (i : ℕ) {g : Bool} (inv : g ≡ clauses_from i) where
      module _ (l : i < m) {o : Op} (at : o ≡ get_or ops (32 * k + (t + 1 + i)) no_op) where
        clause_at : is_clause (get_or (take m rest) i (instruction no_op)) ≡ eqb o.number clause_op
        unfolding rest instruction
        clause_at =
            ap is_clause (get_or-take m rest i (instruction no_op) l ∙ get_or-drop (t + 1) (code_in n ops k) i (instruction no_op) ∙ code_at n ops k (t + 1 + i) (omega arith))
            ∙ ap (λ (x : Op). eqb x.number clause_op) (sym at)

        pub clause_stop : (o.number ≡ clause_op → ⊥) → false ≡ g
        unfolding rest
        clause_stop d = all_stop (λ u x. is_clause x) (take m rest) i i (instruction no_op) (omega (arith, clauses_length)) (clause_at ∙ ne_eqb o.number clause_op d) inv

        pub clause_more : o.number ≡ clause_op → g ≡ clauses_from (i + 1)
        unfolding rest
        clause_more d = all_more (λ u x. is_clause x) (take m rest) i i (instruction no_op) (omega (arith, clauses_length)) (clause_at ∙ eq-eqb o.number clause_op d) inv

      pub clauses_end : m ≤ i → true ≡ g
      unfolding rest
      clauses_end l = all_end (λ u x. is_clause x) (take m rest) i i (instruction no_op) (omega (arith, clauses_length)) inv

-- ---- the ops of a behaviour, the first of them on line f

module _ (code : List Instruction) (f t : ℕ) {g : ℕ} (inv : g ≡ misplaced_in code t (f + t) (drop t code)) where
  module _ (d : Instruction) (h : t < length code) where
    pub in_stop : well_placed code t (get_or code t d) ≡ false → f + t ≡ g
    unfolding misplaced_in
    in_stop e = sym (inv ∙ rw (drop-cons code t d h, e))

    pub in_more : well_placed code t (get_or code t d) ≡ true → g ≡ misplaced_in code (t + 1) (f + (t + 1)) (drop (t + 1) code)
    unfolding misplaced_in
    in_more e = let next : f + t + 1 ≡ f + (t + 1) = omega arith in inv ∙ rw (drop-cons code t d h, e, next, add-one t)

  pub in_end : length code ≤ t → 0 ≡ g
  unfolding misplaced_in
  in_end h = sym (inv ∙ rw (drop_of_length-le code {i = t} h))

pub in_begin : (code : List Instruction) (f : ℕ) → misplaced_in code 0 f code ≡ misplaced_in code 0 (f + 0) (drop 0 code)
in_begin code f = let e : f + 0 ≡ f = omega arith in rw e

-- a line as the code tells it
told_some : (n m : ℕ) → line_told n ≡ Some m → (n ≡ m) × (0 < n)
told_some zero m e = cc
told_some (suc n) m e = (cc, omega arith)

told_none : (n : ℕ) → line_told n ≡ None → n ≡ 0
told_none zero e = refl
told_none (suc n) e = cc

pub told_line : (n : ℕ) → 1 ≤ n → Some n ≡ line_told n
told_line zero h = absurd (omega arith)
told_line (suc n) h = refl

-- ---- the behaviours

module _ (codes : List (List Instruction)) (line k : ℕ) {g : ℕ} (inv : g ≡ misplaced_from line (drop k codes)) where
  module _ (code : List Instruction) (h : k < length codes) (at : get_or codes k [] ≡ code) where
    opened : g ≡ or_else (misplaced_in code 0 (line + 1) code) (misplaced_from (line + 1 + length code) (drop (k + 1) codes))
    unfolding misplaced_from
    opened = inv ∙ rw (drop-cons codes k [] h, at, add-one k)

    pub from_stop : (found : ℕ) → line_told (misplaced_in code 0 (line + 1) code) ≡ Some found → Some found ≡ line_told g
    from_stop found e =
        let w = told_some _ found e in
        let first : found ≡ g = sym (opened ∙ rw (ne_eqb (misplaced_in code 0 (line + 1) code) 0 (λ z. omega (arith, w, z))) w.0) in
        told_line found (omega (arith, w)) ∙ ap line_told first

    pub from_more : line_told (misplaced_in code 0 (line + 1) code) ≡ None → g ≡ misplaced_from (line + 1 + length code) (drop (k + 1) codes)
    from_more e = opened ∙ rw (eq-eqb (misplaced_in code 0 (line + 1) code) 0 (told_none _ e))

  pub from_end : length codes ≤ k → 0 ≡ g
  unfolding misplaced_from
  from_end h = sym (inv ∙ rw (drop_of_length-le codes {i = k} h))
