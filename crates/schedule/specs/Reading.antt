-- Steps text (document 01: "Steps: `run=i`, `arrive=i,j`, numbers 0 to 255 (any other: 15); empty text is no steps"), with M-102's
-- `timeout=i`.
--   malformed_line        document 01's number for a malformed line
--   byte_of l             l read as a number of 0 to 255
--   byte_told x           such a number as the code's answer: none where it is refused
--   packed_step kind i j  the number of the step of a kind, 0 run, 1 arrive or 2 timeout, with its owner's and its sender's number
--   packed_of kind i j    the number of the step of a kind, 0 run, 1 arrive or 2 timeout, where its owner's and its sender's number were read
--   own_of kind l         what follows `run=` or `timeout=`: a number
--   arrival_of fields     what follows `arrive=`: two fields
--   step_of line          what a line is, without its byte 10: a step, or refused as malformed
--   line_of x             what the code's answer for a line stands for: refused under 15, or the step
--   unended rest         what a last line without byte 10 is, whatever it holds
--   read_lines ls         what each line of a text is
--   first_malformed n ls  the number of the first malformed line, where the first line has number n; 0 where none is
--   steps_of ls           the steps among lines
--   Schedule              the answer for a text: the number told, 15, 32 or 0; the malformed line, from 1, or 0; how many steps there are,
--                         none with a refusal; and their numbers, with 0 in the entries behind the last
--   refused_text k line   the answer with refusal k: no steps
--   accepted_steps steps  the answer without one
--   of_lines ls           the answer for a text with these lines
--   schedule_of text      the answer for a text
--   refusal_number e refusal_line e   the number and the line that the code's refusal stands for
--   schedule_told r       the answer that the code's result stands for
use Rattle.std.specs.Prelude.{◌&&◌, cond, List, [], ◌∷◌, ◌++◌, map, ℕ, ◌+◌, eqb, ltb, length, get_or, drop, replicate}
use Rattle.std.specs.Prelude.{Option, Some, None, Result, Ok, Err}
use Rattle.actions.specs.Numbers.{encode}
use Rattle.node.specs.Lists.{firsts}
use Rattle.node.specs.Texts.{bytes}
use Rattle.rules.specs.Answers.{Answer, refused, done, need, schedule_too_long}
use Rattle.text.specs.Numbers.{number_of, Ranged, ranged_of}
use Rattle.text.specs.Parts.{Lines, lines_of, fields_of, starts_with}
use Rattle.schedule.specs.declared.Refused.{Refused}
use Rattle.schedule.specs.declared.Refused.TheVariants.{Malformed, TooLong}
use Rattle.schedule.specs.declared.accepted.Schedule.{Schedule as Accepted}

abbrev pub malformed_line : ℕ
malformed_line = 15

-- ---- a line

abbrev pub byte_of : List ℕ → Ranged
byte_of l = ranged_of (number_of l) 0 255

abbrev pub byte_told : Ranged → Option ℕ
byte_told x = cond (eqb x.refusal 0) (Some x.number) None

abbrev pub packed_step : ℕ → ℕ → ℕ → ℕ
packed_step kind i j = encode (record { kind = kind; owner = record { 0 = i }; from = record { 0 = j } })

unfoldable pub packed_of : ℕ → Ranged → Ranged → Answer ℕ
packed_of kind i j =
    need (eqb i.refusal 0 && eqb j.refusal 0) malformed_line
    (done (packed_step kind i.number j.number))

-- the sender of a run or a timeout is 0
unfoldable pub own_of : ℕ → List ℕ → Answer ℕ
own_of kind l = packed_of kind (byte_of l) (record { refusal = 0; number = 0 })

unfoldable pub arrival_of : List (List ℕ) → Answer ℕ
arrival_of fields = need (eqb (length fields) 2) malformed_line (packed_of 1 (byte_of (get_or fields 0 [])) (byte_of (get_or fields 1 [])))

abbrev pub run_key : List ℕ
run_key = bytes "run="

abbrev pub arrive_key : List ℕ
arrive_key = bytes "arrive="

abbrev pub timeout_key : List ℕ
timeout_key = bytes "timeout="

unfoldable pub step_of : List ℕ → Answer ℕ
step_of line =
    cond (starts_with run_key line) (own_of 0 (drop 4 line))
    (cond (starts_with arrive_key line) (arrival_of (fields_of (drop 7 line)))
    (cond (starts_with timeout_key line) (own_of 2 (drop 8 line))
    (refused malformed_line)))

abbrev pub line_of : Option ℕ → Answer ℕ
line_of None = refused malformed_line
line_of (Some s) = done s

-- ---- the lines of a text

-- "each ended by byte 10; a last line without it is .. in steps 15"
abbrev pub unended : List ℕ → List (Answer ℕ)
unended [] = []
unended (b ∷ l) = refused malformed_line ∷ []

unfoldable pub read_lines : Lines → List (Answer ℕ)
read_lines ls = map step_of ls.whole ++ unended ls.rest

unfoldable pub first_malformed : ℕ → List (Answer ℕ) → ℕ
first_malformed n [] = 0
first_malformed n (refused k ∷ ls) = n
first_malformed n (done s ∷ ls) = first_malformed (n + 1) ls

unfoldable pub steps_of : List (Answer ℕ) → List ℕ
steps_of [] = []
steps_of (refused k ∷ ls) = steps_of ls
steps_of (done s ∷ ls) = s ∷ steps_of ls

-- ---- the answer

pub record Schedule : Type 0 where
  pub number : ℕ
  pub line : ℕ
  pub count : ℕ
  pub steps : List ℕ

unfoldable pub refused_text : ℕ → ℕ → Schedule
refused_text k line = record { number = k; line = line; count = 0; steps = replicate 4096 0 }

unfoldable pub accepted_steps : List ℕ → Schedule
accepted_steps steps = record { number = 0; line = 0; count = length steps; steps = firsts 0 4096 steps }

-- "else 15 malformed line, the first told; if none, 32 with line 0 for over 4,096 lines; each gives no steps"
unfoldable pub of_lines : List (Answer ℕ) → Schedule
of_lines ls =
    cond (ltb 0 (first_malformed 1 ls)) (refused_text malformed_line (first_malformed 1 ls))
    (cond (ltb 4096 (length ls)) (refused_text schedule_too_long 0)
    (accepted_steps (steps_of ls)))

-- "32 with line 0 for text above 61,440 bytes"
unfoldable pub schedule_of : List ℕ → Schedule
schedule_of text = cond (ltb 61440 (length text)) (refused_text schedule_too_long 0) (of_lines (read_lines (lines_of text)))

-- ---- the code's result

abbrev pub refusal_number : Refused → ℕ
refusal_number (Malformed line) = malformed_line
refusal_number TooLong = schedule_too_long

abbrev pub refusal_line : Refused → ℕ
refusal_line (Malformed line) = line
refusal_line TooLong = 0

abbrev pub schedule_told : Result Accepted Refused → Schedule
schedule_told (Ok s) = record { number = 0; line = 0; count = s.count; steps = s.steps }
schedule_told (Err e) = refused_text (refusal_number e) (refusal_line e)
