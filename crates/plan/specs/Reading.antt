-- Reading a text line by line, the first bad line told (document 01, "The three hands").
--   Left             what is left of a text: its lines, and the number of the first of them
--   Read A           what is read: a refusal with its line, or a result and what is left
--   on_line f l      one line, read by f; a missing line, and one without byte 10, is 11
--   then_on r f      f on what is left behind r
--   times n f a l    f n times, each on what the one before left
--   end_of a l       the result a, where nothing is left; a surplus line is 11
use Rattle.std.specs.Prelude.{List, [], ◌∷◌, ℕ, zero, suc, ◌+◌}
use Rattle.rules.specs.Answers.{Answer, refused, done}
use Rattle.text.specs.Numbers.{malformed}
use Rattle.text.specs.Parts.{Lines}

pub record Left : Type 0 where
  pub text : Lines
  pub first : ℕ

pub data Read (A : Type 0) : Type 0 where
  bad : ℕ → ℕ → Read A
  good : A → Left → Read A

module _ {A : Type 0} where
  abbrev pub judged : Answer A → ℕ → Lines → Read A
  judged (refused k) n ls = bad k n
  judged (done a) n ls = good a (record { text = ls; first = n + 1 })

  -- "a missing line counting as the one after the last"; behind the whole lines, a line without byte 10 is that one
  abbrev pub first_of : (List ℕ → Answer A) → ℕ → List (List ℕ) → List ℕ → Read A
  first_of f n [] rest = bad malformed n
  first_of f n (line ∷ ls) rest = judged (f line) n (record { whole = ls; rest = rest })

  unfoldable pub on_line : (List ℕ → Answer A) → Left → Read A
  on_line f l = first_of f l.first l.text.whole l.text.rest

  abbrev pub then_on : {B : Type 0} → Read A → (A → Left → Read B) → Read B
  then_on (bad k n) f = bad k n
  then_on (good a l) f = f a l

  unfoldable pub times : ℕ → (A → Left → Read A) → A → Left → Read A
  times zero f a l = good a l
  times (suc n) f a l = then_on (f a l) (times n f)

  abbrev pub nothing_in : A → Left → List (List ℕ) → List ℕ → Read A
  nothing_in a l [] [] = good a l
  nothing_in a l [] (b ∷ rest) = bad malformed l.first
  nothing_in a l (line ∷ ls) rest = bad malformed l.first

  unfoldable pub end_of : A → Left → Read A
  end_of a l = nothing_in a l l.text.whole l.text.rest
