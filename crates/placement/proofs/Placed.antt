-- Where no line is told of 14, every op is well placed; and behaviours that are sound have no such line. Assumes nothing.
--   misplaced_none misplaced_sound   as said
--   misplaced_most                   the line that is told is one of the lines of the codes
use mathlib.Core.Bool.{Bool, true, false, So, cond, ◌&&◌}
use mathlib.Core.List.{List, [], ◌∷◌}
use mathlib.Core.Path.{◌≡◌, refl}
use Prim.Native.Nat.{ℕ, ◌+◌, ◌*◌, ◌≤◌, ◌<◌}
use native.Mathlib.Omega.{arith}
use borrow.Author.Tests.{eqb-true, eqb-false, leb-true}
use lib.Dec.{eqb, leb}
use lib.ListN.{length}
use Rattle.node.specs.Lists.{all_from, all_of}
use Rattle.rules.specs.Behaviours.{Instruction, code_sound, in_range, well_placed}
use Rattle.rules.proofs.All.{both, parts}
use Rattle.placement.specs.Misplaced.{misplaced_in, misplaced_from, or_else}

in_none : (code : List Instruction) (t n : ℕ) (xs : List Instruction) → 0 < n → misplaced_in code t n xs ≡ 0 → So (all_from (well_placed code) t xs)
unfolding misplaced_in
in_none code t n [] l h = refl
in_none code t n (x ∷ xs) l h = go (well_placed code t x) refl h (in_none code (t + 1) (n + 1) xs (omega arith))
  where
    go : (b : Bool) → well_placed code t x ≡ b → cond b (misplaced_in code (t + 1) (n + 1) xs) n ≡ 0 → (misplaced_in code (t + 1) (n + 1) xs ≡ 0 → So (all_from (well_placed code) (t + 1) xs))
        → So (all_from (well_placed code) t (x ∷ xs))
    go true e h next = both e (next h)
    go false e h next = absurd (omega (arith, h, l))

or_none : (m n : ℕ) → or_else m n ≡ 0 → (m ≡ 0) × (n ≡ 0)
or_none m n h = go (eqb m 0) refl h
  where
    go : (b : Bool) → eqb m 0 ≡ b → cond b n m ≡ 0 → (m ≡ 0) × (n ≡ 0)
    go true e h = (eqb-true m 0 e, h)
    go false e h = absurd (eqb-false m 0 e h)

pub misplaced_none : (n : ℕ) (codes : List (List Instruction)) → misplaced_from n codes ≡ 0 → So (all_of (λ (code : List Instruction). all_from (well_placed code) 0 code) codes)
unfolding misplaced_from
misplaced_none n [] h = refl
misplaced_none n (code ∷ codes) h =
    let w = or_none (misplaced_in code 0 (n + 1) code) (misplaced_from (n + 1 + length code) codes) h in
    both (in_none code 0 (n + 1) code (omega arith) w.0) (misplaced_none (n + 1 + length code) codes w.1)

in_sound : (code : List Instruction) (c l t n : ℕ) (xs : List Instruction) → So (all_from (λ t x. in_range c l x && well_placed code t x) t xs) → misplaced_in code t n xs ≡ 0
unfolding misplaced_in
in_sound code c l t n [] h = refl
in_sound code c l t n (x ∷ xs) h =
    let w = parts (in_range c l x && well_placed code t x) _ h in
    rw (parts (in_range c l x) _ w.0).1 (in_sound code c l (t + 1) (n + 1) xs w.1)

pub misplaced_sound : (c n : ℕ) (codes : List (List Instruction)) → So (all_of (code_sound c) codes) → misplaced_from n codes ≡ 0
unfolding misplaced_from code_sound
misplaced_sound c n [] h = refl
misplaced_sound c n (code ∷ codes) h =
    let w = parts (code_sound c code) _ h in
    let placed : Bool = all_from (λ t x. in_range c (length code) x && well_placed code t x) 0 code in
    let first : misplaced_in code 0 (n + 1) code ≡ 0 = in_sound code c (length code) 0 (n + 1) code (parts (leb 1 (length code) && leb (length code) 32) placed w.0).1 in
    rw (first, misplaced_sound c (n + 1 + length code) codes w.1)

in_most : (code : List Instruction) (t n : ℕ) (xs : List Instruction) → misplaced_in code t n xs ≤ n + length xs
unfolding misplaced_in
in_most code t n [] = omega arith
in_most code t n (x ∷ xs) = go (well_placed code t x) (in_most code (t + 1) (n + 1) xs)
  where
    go : (b : Bool) → misplaced_in code (t + 1) (n + 1) xs ≤ n + 1 + length xs → cond b (misplaced_in code (t + 1) (n + 1) xs) n ≤ n + length (x ∷ xs)
    go true h = omega arith
    go false h = omega arith

-- a code has its line `code=` and at most 32 ops
pub misplaced_most : (n : ℕ) (codes : List (List Instruction)) → So (all_of (λ (code : List Instruction). leb (length code) 32) codes) → misplaced_from n codes ≤ n + 33 * length codes
unfolding misplaced_from
misplaced_most n [] h = omega arith
misplaced_most n (code ∷ codes) h =
    let w = parts (leb (length code) 32) _ h in
    let short = leb-true (length code) 32 w.0 in
    go (eqb (misplaced_in code 0 (n + 1) code) 0) short (misplaced_most (n + 1 + length code) codes w.1)
  where
    go : (b : Bool) → length code ≤ 32 → misplaced_from (n + 1 + length code) codes ≤ n + 1 + length code + 33 * length codes
        → cond b (misplaced_from (n + 1 + length code) codes) (misplaced_in code 0 (n + 1) code) ≤ n + 33 * length (code ∷ codes)
    go true l next = omega arith
    go false l next = omega (arith, in_most code 0 (n + 1) code)
