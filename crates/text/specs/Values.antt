-- Values as text (document 01: "an integer `i` (-2147483648 to 2147483647), an atom `a` (0 to 255) or a process number `p` (1 to 16)").
--   Parsed                what is read of a value: the refusal, 11 or 12, and a value of number 0, or the refusal 0 and the value
--   no_value refusal      what is read where it is refused
--   read_as v           what is read where it is v
--   plus_of n minus_of n   the integers n and -n, where they are within their limits
--   int_of n              the integer that the number n is, as it was read
--   ranged_value make n   the value that `make` makes of a number with a range
--   by_letter b l         a value's letter decides how its number is read; an unknown letter is malformed
--   value_of l            what is read of l: a value, or a refusal
--   letter_of v           the letter of v: i, a or p
--   number_text v         the number of v in base ten
--   value_text v          the text of v
use Rattle.std.specs.Prelude.{cond, List, [], ◌∷◌, ℕ, eqb, leb, pos, neg_ℤ}
use Prim.Native.Char.{code}
use Rattle.node.specs.Values.{int_zero, pid}
use Rattle.node.specs.declared.Value.TheVariants.{Int, Atom, Pid}
use Rattle.node.specs.declared.Value.{Value}
use Rattle.rules.specs.Answers.{Answer, refused, done}
use Rattle.text.specs.Numbers.{malformed, out_of_range, Signed, number_of, Ranged, ranged_of}
use Rattle.text.specs.Writing.{digits, int_text}

pub record Parsed : Type 0 where
  pub refusal : ℕ
  pub value : Value

abbrev pub no_value : ℕ → Parsed
no_value refusal = record { refusal = refusal; value = int_zero }

abbrev pub read_as : Value → Parsed
read_as v = record { refusal = 0; value = v }

unfoldable pub plus_of : ℕ → Parsed
plus_of n = cond (leb n 2147483647) (read_as (Int (pos n))) (no_value out_of_range)

unfoldable pub minus_of : ℕ → Parsed
minus_of n = cond (leb n 2147483648) (read_as (Int (neg_ℤ (pos n)))) (no_value out_of_range)

unfoldable pub int_of : Answer Signed → Parsed
int_of (refused k) = no_value k
int_of (done n) = cond n.minus (minus_of n.value) (plus_of n.value)

abbrev pub ranged_value : (ℕ → Value) → Ranged → Parsed
ranged_value make n = record { refusal = n.refusal; value = make n.number }

unfoldable pub by_letter : ℕ → List ℕ → Parsed
by_letter b l =
    cond (eqb b (code "i")) (int_of (number_of l))
    (cond (eqb b (code "a")) (ranged_value Atom (ranged_of (number_of l) 0 255))
    (cond (eqb b (code "p")) (ranged_value pid (ranged_of (number_of l) 1 16))
    (no_value malformed)))

unfoldable pub value_of : List ℕ → Parsed
value_of [] = no_value malformed
value_of (b ∷ l) = by_letter b l

abbrev pub letter_of : Value → ℕ
letter_of (Int z) = code "i"
letter_of (Atom a) = code "a"
letter_of (Pid i) = code "p"

unfoldable pub number_text : Value → List ℕ
number_text (Int z) = int_text z
number_text (Atom a) = digits a
number_text (Pid i) = digits i.0

unfoldable pub value_text : Value → List ℕ
value_text v = letter_of v ∷ number_text v
