-- What is told of a steps text: a number of at most 32, a line of at most 61,441, and at most 4,096 steps in an array of so many. Assumes nothing.
--   Low s       so for an answer s
--   read_told   so for every text
--   refusal_told            the number of a refusal is not 0
use mathlib.Core.Bool.{Bool, true, false, cond}
use mathlib.Core.List.{List, [], ◌∷◌, map}
use mathlib.Core.Path.{◌≡◌, refl}
use Prim.Native.Nat.{ℕ, ◌+◌, ◌≤◌}
use native.Mathlib.Omega.{arith}
use borrow.Author.Tests.{ltb-false}
use lib.Dec.{ltb}
use lib.ListN.{length, length-append, length-map, length-replicate}
use Rattle.node.proofs.Lists.{firsts_length}
use Rattle.rules.specs.Answers.{Answer, refused, done, schedule_too_long}
use Rattle.text.proofs.Parts.{lines_few}
use Rattle.text.specs.Parts.{lines_of}
use Rattle.schedule.specs.declared.Refused.{Refused}
use Rattle.schedule.specs.declared.Refused.TheVariants.{Malformed, TooLong}
use Rattle.schedule.specs.Reading.{refusal_number}
use Rattle.schedule.specs.Reading.{Schedule, malformed_line, step_of, unended, read_lines, first_malformed, steps_of, refused_text, accepted_steps, of_lines, schedule_of}

pub record Low (s : Schedule) : Type 0 where
  pub number : s.number ≤ schedule_too_long
  pub line : s.line ≤ 61441
  pub count : s.count ≤ 4096
  pub room : length s.steps ≡ 4096

refused_low : (k line : ℕ) → k ≤ schedule_too_long → line ≤ 61441 → Low (refused_text k line)
unfolding refused_text
refused_low k line h g = record { number = h; line = g; count = omega arith; room = length-replicate {A = ℕ} 4096 0 }

accepted_low : (l : List ℕ) → length l ≤ 4096 → Low (accepted_steps l)
unfolding accepted_steps
accepted_low l h = record { number = omega arith; line = omega arith; count = h; room = firsts_length 0 4096 l }

steps_few : (ls : List (Answer ℕ)) → length (steps_of ls) ≤ length ls
unfolding steps_of
steps_few [] = omega arith
steps_few (refused k ∷ ls) = omega (arith, steps_few ls)
steps_few (done s ∷ ls) = omega (arith, steps_few ls)

first_most : (n : ℕ) (ls : List (Answer ℕ)) → first_malformed (n + 1) ls ≤ n + length ls
unfolding first_malformed
first_most n [] = omega arith
first_most n (refused k ∷ ls) = omega arith
first_most n (done s ∷ ls) = omega (arith, first_most (n + 1) ls)

lines_low : (ls : List (Answer ℕ)) → length ls ≤ 61441 → Low (of_lines ls)
unfolding of_lines
lines_low ls few = go (ltb 0 (first_malformed 1 ls)) (ltb 4096 (length ls)) refl
  where
    go : (b c : Bool) → ltb 4096 (length ls) ≡ c → Low (cond b (refused_text malformed_line (first_malformed 1 ls)) (cond c (refused_text schedule_too_long 0) (accepted_steps (steps_of ls))))
    go true c h = refused_low malformed_line (first_malformed 1 ls) (omega arith) (omega (arith, first_most 0 ls))
    go false true h = refused_low schedule_too_long 0 (omega arith) (omega arith)
    go false false h = accepted_low (steps_of ls) (omega (arith, steps_few ls, ltb-false 4096 (length ls) h))

unended_one : (rest : List ℕ) → length (unended rest) ≤ 1
unended_one [] = omega arith
unended_one (b ∷ rest) = omega arith

lines_most : (text : List ℕ) → length (read_lines (lines_of text)) ≤ length text + 1
unfolding read_lines
lines_most text =
    let ls = lines_of text in
    rw (length-append (map step_of ls.whole) (unended ls.rest), length-map ls.whole step_of) (omega (arith, lines_few text, unended_one ls.rest))

pub read_told : (text : List ℕ) → Low (schedule_of text)
unfolding schedule_of
read_told text = go (ltb 61440 (length text)) refl
  where
    go : (b : Bool) → ltb 61440 (length text) ≡ b → Low (cond b (refused_text schedule_too_long 0) (of_lines (read_lines (lines_of text))))
    go true h = refused_low schedule_too_long 0 (omega arith) (omega arith)
    go false h = lines_low (read_lines (lines_of text)) (omega (arith, lines_most text, ltb-false 61440 (length text) h))

pub refusal_told : (e : Refused) → refusal_number e ≡ 0 → ⊥
refusal_told (Malformed line) h = cc
refusal_told TooLong h = cc
