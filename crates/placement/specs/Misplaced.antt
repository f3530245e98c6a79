-- The line that a plan is refused by with 14 (document 01: "For 14 it is the lowest line of such a recv, clause or op").
--   misplaced_in code t n xs   of the ops xs, of which the first stands at place t of the code and on line n
--   misplaced_from n codes     of codes of which the first has its line `code=` at n
--   first_code                 the line of the first `code=`
--   line_told n                a line as the code tells it: none for 0
-- Each is the line of the first op that is not well placed; 0 where there is none.
use Rattle.std.specs.Prelude.{cond, List, [], ◌∷◌, Option, None, Some, ℕ, zero, suc, ◌+◌, eqb, length}
use Rattle.rules.specs.Behaviours.{Instruction, well_placed}

unfoldable pub misplaced_in : List Instruction → ℕ → ℕ → List Instruction → ℕ
misplaced_in code t n [] = 0
misplaced_in code t n (x ∷ xs) = cond (well_placed code t x) (misplaced_in code (t + 1) (n + 1) xs) n

abbrev pub or_else : ℕ → ℕ → ℕ
or_else m n = cond (eqb m 0) n m

unfoldable pub misplaced_from : ℕ → List (List Instruction) → ℕ
misplaced_from n [] = 0
misplaced_from n (code ∷ codes) = or_else (misplaced_in code 0 (n + 1) code) (misplaced_from (n + 1 + length code) codes)

-- behind `plan=1` and `behaviours=`
abbrev pub first_code : ℕ
first_code = 3

abbrev pub line_told : ℕ → Option ℕ
line_told zero = None
line_told (suc n) = Some (suc n)
