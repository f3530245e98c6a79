-- Numbers in base ten (document 01: "Numbers have no plus, leading zero or -0").
--   malformed out_of_range   document 01's numbers for a wrong form and for a number out of its range
--   is_digit b              b is one of the characters 0 to 9
--   unsigned_form l         l is 0, or digits of which the first is not 0
--   negative l             l starts with a minus
--   unsigned l             l without its minus
--   number_form l           l is a number: not -0, and unsigned or a minus and an unsigned number
--   digit_value b           the value of a digit; 0 for a byte below the digits
--   decimal n l            the value of the digits of n and then those of l
--   number_value l          the value of l without its sign, at any length
--   ceiling                past every range; a value that is read is held here
--   natural_of form l       the value of l, held, where it has the form that is asked for
--   Signed                 a number as it is read: whether it has a minus, and its value
--   number_of l             what is read: refused as malformed, or the number with its value held
--   Ranged                  what is read with a range: the refusal, 11 or 12, and the number 0, or the refusal 0 and the number
--   no_number refusal       what is read with a range where it is refused
--   ranged_of n low high    what is read with a range: n, which can't be negative, has to be within low to high
use Rattle.std.specs.Prelude.{Bool, false, ◌&&◌, not, cond, List, [], ◌∷◌, ℕ, ◌+◌, ◌*◌, ◌-◌, min, eqb, leb, drop, Option, Some, None}
use Prim.Native.Char.{code}
use Rattle.node.specs.Lists.{all_of}
use Rattle.node.specs.Texts.{bytes}
use Rattle.rules.specs.Answers.{Answer, refused, done, need}
use Rattle.text.specs.Parts.{equal, starts_with}

-- "11 wrong key, word, operand count, number form, missing or surplus line; 12 number out of range"
abbrev pub malformed : ℕ
malformed = 11

abbrev pub out_of_range : ℕ
out_of_range = 12

unfoldable pub is_digit : ℕ → Bool
is_digit b = leb (code "0") b && leb b (code "9")

unfoldable pub unsigned_form : List ℕ → Bool
unsigned_form [] = false
unsigned_form (b ∷ l) = cond (eqb b (code "0")) (equal l []) (all_of is_digit (b ∷ l))

unfoldable pub negative : List ℕ → Bool
negative l = starts_with (bytes "-") l

unfoldable pub unsigned : List ℕ → List ℕ
unsigned l = cond (negative l) (drop 1 l) l

unfoldable pub number_form : List ℕ → Bool
number_form l = not (equal l (bytes "-0")) && unsigned_form (unsigned l)

abbrev pub digit_value : ℕ → ℕ
digit_value b = b - code "0"

unfoldable pub decimal : ℕ → List ℕ → ℕ
decimal n [] = n
decimal n (b ∷ l) = decimal (n * 10 + digit_value b) l

unfoldable pub number_value : List ℕ → ℕ
number_value l = decimal 0 (unsigned l)

abbrev pub ceiling : ℕ
ceiling = 4294967296

abbrev pub natural_of : Bool → List ℕ → Option ℕ
natural_of form l = cond form (Some (min (decimal 0 l) ceiling)) None

pub record Signed : Type 0 where
  pub minus : Bool
  pub value : ℕ

unfoldable pub number_of : List ℕ → Answer Signed
number_of l = need (number_form l) malformed (done (record { minus = negative l; value = min (number_value l) ceiling }))

pub record Ranged : Type 0 where
  pub refusal : ℕ
  pub number : ℕ

abbrev pub no_number : ℕ → Ranged
no_number refusal = record { refusal = refusal; number = 0 }

-- "a minus on a number that can't be negative is 12"
unfoldable pub ranged_of : Answer Signed → ℕ → ℕ → Ranged
ranged_of (refused k) low high = no_number k
ranged_of (done n) low high =
    cond (not n.minus && (leb low n.value && leb n.value high)) (record { refusal = 0; number = n.value }) (no_number out_of_range)
