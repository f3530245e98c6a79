-- Rules 12 and 14 by one pass over a behaviour: each op is in range, it is a clause exactly where one is due and an `after` only where it may
-- stand, and leads to no part of a recv; behind the last op no clause is due. Assumes nothing.
use mathlib.Core.Bool.{Bool, true, false, ◌&&◌, ◌||◌, not, and-false}
use mathlib.Core.List.{List, [], ◌∷◌, ◌++◌}
use mathlib.Core.Path.{◌≡◌, refl, sym, ◌∙◌, ap}
use Prim.Native.Nat.{ℕ, zero, suc, ◌+◌, ◌-◌, ◌≤◌, ◌<◌}
use native.Mathlib.Numerals.{add-one}
use native.Mathlib.Omega.{arith}
use borrow.Author.Tests.{eqb-true, eq-eqb, le-leb, leb-true, leb-false, lt-ltb, ltb-true}
use lib.Dec.{eqb, leb, leb-suc-suc, leb-suc-zero, ltb}
use lib.ListN.{length, get_or, take, drop, drop_of_length-le}
use lib.Seq.{drop-cons, take-suc}
use Rattle.node.specs.Lists.{all_from, all_of}
use Rattle.node.specs.Ops.{after_op, clause_op, recv_op}
use Rattle.rules.specs.Behaviours.{Instruction, clause_count, code_sound, due, due_next, has_clauses, in_range, in_turn, is_after, is_clause, is_recv, targets_free, well_placed}
use Rattle.rules.proofs.All.{parts}
use Rattle.behaviours.specs.Codes.{placed_by}

due_append : (k : ℕ) (l : List Instruction) (x : Instruction) → due k (l ++ (x ∷ [])) ≡ due_next (due k l) x
due_append k [] x = refl
due_append k (y ∷ l) x = due_append (due_next k y) l x

due_more : (code : List Instruction) (t : ℕ) (d : Instruction) → t < length code → due 0 (take (t + 1) code) ≡ due_next (due 0 (take t code)) (get_or code t d)
due_more code t d h = ap (λ (n : ℕ). due 0 (take n code)) (add-one t) ∙ ap (due 0) (take-suc code t d h) ∙ due_append 0 (take t code) (get_or code t d)

has_none : (l : List Instruction) → has_clauses 0 l ≡ true
unfolding has_clauses
has_none l = rw (le-leb 0 (length l) (omega arith))

has_more : (k : ℕ) (x : Instruction) (l : List Instruction) → has_clauses (suc k) (x ∷ l) ≡ (is_clause x && has_clauses k l)
unfolding has_clauses
has_more k x l = rw (leb-suc-suc k (length l)) (swap (leb k (length l)) (is_clause x) (all_of is_clause (take k l)))
  where
    swap : (a b c : Bool) → (a && (b && c)) ≡ (b && (a && c))
    swap false false c = refl
    swap false true c = refl
    swap true b c = refl

-- what is left of the rules from place t on, where k parts of a recv may stand there
unfoldable pub left : ℕ → ℕ → List Instruction → ℕ → ℕ → Bool
left c n code t k = has_clauses (k - 1) (drop t code) && all_from (λ u x. in_range c n x && well_placed code u x) t (drop t code)

pub left_start : (c : ℕ) (code : List Instruction) → code_sound c code ≡ (leb 1 (length code) && leb (length code) 32 && left c (length code) code 0 0)
unfolding left code_sound
left_start c code = rw (has_none code)

pub left_end : (c n : ℕ) (code : List Instruction) (t k : ℕ) → length code ≤ t → left c n code t k ≡ leb k 1
unfolding left has_clauses
left_end c n code t k h = rw (drop_of_length-le code {i = t} h) (go k)
  where
    go : (k : ℕ) → (leb (k - 1) 0 && all_of is_clause (take (k - 1) []) && true) ≡ leb k 1
    go zero = refl
    go (suc zero) = refl
    go (suc (suc k)) =
        let e : suc (suc k) - 1 ≡ suc k = omega arith in
        rw (e, leb-suc-suc (suc k) 0, leb-suc-zero k)

-- one op x, with `rest` behind it: r says that it is in range, f that it leads to no part of a recv, g what the ops behind it give
module _ (x : Instruction) (rest : List Instruction) (r f g : Bool) where
  now : ℕ → Bool
  now k = has_clauses (k - 1) (x ∷ rest) && (r && ((not (is_recv x) || has_clauses (clause_count x) rest) && in_turn x.number k && f) && g)

  other : (m n : ℕ) → eqb x.number m ≡ true → eqb m n ≡ false → eqb x.number n ≡ false
  other m n e h = ap (λ (j : ℕ). eqb j n) (eqb-true x.number m e) ∙ h

  -- where no clause is due
  few : (k : ℕ) → k ≤ 1 → has_clauses (k - 1) (x ∷ rest) ≡ true
  few k h = let e : k - 1 ≡ 0 = omega arith in rw (e, has_none (x ∷ rest))

  -- where one is
  many : (k : ℕ) → 1 < k → has_clauses (k - 1) (x ∷ rest) ≡ (is_clause x && has_clauses (k - 2) rest)
  many k h = let e : k - 1 ≡ suc (k - 2) = omega arith in rw e (has_more (k - 2) x rest)

  twice : (b : Bool) → ((b && true && true) && g) ≡ (b && g)
  twice true = refl
  twice false = refl

  goes : (k : ℕ) (a p b : Bool) → is_clause x ≡ a → is_after x ≡ p → is_recv x ≡ b → r ≡ true → f ≡ true → placed_by k x ≡ true → now k ≡ (has_clauses (due_next k x - 1) rest && g)
  unfolding now placed_by
  goes k true p b ea ep eb er ef h =
      let l : 1 < k = ltb-true 1 k (rw ea at h) in
      let e : k - 1 - 1 ≡ k - 2 = omega arith in
      rw (many k l, ea, other clause_op after_op ea refl, other clause_op recv_op ea refl, er, ef, lt-ltb 1 k l, e)
  goes k false true b ea ep eb er ef h =
      let l : k ≡ 1 = eqb-true k 1 (rw (ea, ep) at h) in
      rw (few k (omega (arith, l)), ea, ep, other after_op recv_op ep refl, er, ef, eq-eqb k 1 l, has_none rest)
  goes k false false true ea ep eb er ef h =
      let e : clause_count x + 1 - 1 ≡ clause_count x = omega arith in
      rw (few k (leb-true k 1 (rw (ea, ep) at h)), ea, ep, eb, er, ef, e) (twice (has_clauses (clause_count x) rest))
  goes k false false false ea ep eb er ef h = rw (few k (leb-true k 1 (rw (ea, ep) at h)), ea, ep, eb, er, ef, has_none rest)

  stops : (k : ℕ) (a p : Bool) → is_clause x ≡ a → is_after x ≡ p → placed_by k x ≡ false → now k ≡ false
  unfolding now placed_by
  stops k true p ea ep h =
      let l : ltb 1 k ≡ false = rw ea at h in
      rw (ea, l, and-false (not (is_recv x) || has_clauses (clause_count x) rest), and-false r, and-false)
  stops k false true ea ep h =
      let l : eqb k 1 ≡ false = rw (ea, ep) at h in
      rw (ea, ep, l, and-false (not (is_recv x) || has_clauses (clause_count x) rest), and-false r, and-false)
  stops k false false ea ep h = rw (many k (leb-false k 1 (rw (ea, ep) at h)), ea)

  bars : (k : ℕ) → f ≡ false → now k ≡ false
  unfolding now
  bars k ef = rw (ef, and-false ((not (is_recv x) || has_clauses (clause_count x) rest) && in_turn x.number k), and-false r, and-false)

-- a turn at place t, whose op is x, where k parts of a recv may stand
module _ (c n : ℕ) (code : List Instruction) (t : ℕ) (d x : Instruction) (k : ℕ) (h : t < length code) (at : get_or code t d ≡ x) (by : k ≡ due 0 (take t code)) where
  behind : Bool
  behind = all_from (λ u y. in_range c n y && well_placed code u y) (t + 1) (drop (t + 1) code)

  turn_now : left c n code t k ≡ now x (drop (t + 1) code) (in_range c n x) (targets_free code x) behind k
  unfolding left now well_placed behind
  turn_now = rw (drop-cons code t d h, at, ← by, add-one)

  pub turn_due : due_next k x ≡ due 0 (take (t + 1) code)
  turn_due = rw (by, ← at) (sym (due_more code t d h))

  -- the op passes
  pub turn_more : (in_range c n x && placed_by k x) ≡ true → targets_free code x ≡ true → left c n code t k ≡ left c n code (t + 1) (due_next k x)
  unfolding left behind
  turn_more e f =
      let w = parts (in_range c n x) (placed_by k x) e in
      turn_now ∙ goes x (drop (t + 1) code) (in_range c n x) (targets_free code x) behind k _ _ _ refl refl refl w.0 f w.1

  -- the op fails
  pub turn_stop : (in_range c n x && placed_by k x) ≡ false → left c n code t k ≡ false
  unfolding now
  turn_stop e = turn_now ∙ go (in_range c n x) refl
    where
      go : (b : Bool) → in_range c n x ≡ b → now x (drop (t + 1) code) (in_range c n x) (targets_free code x) behind k ≡ false
      go true q = stops x (drop (t + 1) code) (in_range c n x) (targets_free code x) behind k _ _ refl refl (rw q at e)
      go false q = rw (q, and-false)

  -- it leads to a part of a recv
  pub turn_barred : targets_free code x ≡ false → left c n code t k ≡ false
  turn_barred f = turn_now ∙ bars x (drop (t + 1) code) (in_range c n x) (targets_free code x) behind k f
