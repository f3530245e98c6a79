-- Worked examples of document 01's number forms, ranges and texts; each is computed. Assumes nothing.
use mathlib.Core.Bool.{true, false}
use mathlib.Core.List.{List, [], ◌∷◌, map}
use mathlib.Core.Path.{◌≡◌, refl}
use Prim.Native.Nat.{ℕ}
use lib.IntN.{negsuc}
use Rattle.node.specs.declared.Value.TheVariants.{Int, Atom}
use Rattle.node.specs.Texts.{bytes}
use Rattle.rules.specs.Answers.{done}
use Rattle.text.specs.Numbers.{malformed, out_of_range, is_digit, unsigned_form, negative, unsigned, number_form, decimal, number_value, ceiling, number_of, ranged_of}
use Rattle.text.specs.Parts.{split, in_front, line_then, last_apart, lines_of, fields_of, equal, starts_with}
use Rattle.text.specs.Values.{no_value, read_as, plus_of, minus_of, int_of, by_letter, value_of, number_text, value_text}
use Rattle.text.specs.Writing.{digits_in, digits, int_text}

-- the empty text, 01, +1, -0 and - are no numbers; 0, 10 and -7 are
forms : map number_form (
    []
    ∷ bytes "01"
    ∷ bytes "+1"
    ∷ bytes "-0"
    ∷ bytes "-"
    ∷ bytes "0"
    ∷ bytes "10"
    ∷ bytes "-7"
    ∷ [])
    ≡ false ∷ false ∷ false ∷ false ∷ false ∷ true ∷ true ∷ true ∷ []
unfolding number_form unsigned_form unsigned negative is_digit equal starts_with
forms = refl

-- a number of any length is read, its value held
long : number_of (bytes "99999999999999999999") ≡ done (record { minus = false; value = ceiling })
unfolding number_of number_value decimal number_form unsigned_form unsigned negative is_digit equal starts_with
long = refl

-- a minus on a number that can't be negative is out of range
below : ranged_of (number_of (bytes "-5")) 0 3 ≡ record { refusal = out_of_range; number = 0 }
unfolding ranged_of number_of number_value decimal number_form unsigned_form unsigned negative is_digit equal starts_with
below = refl

-- the least integer is a value
least : value_of (bytes "i-2147483648") ≡ read_as (Int (negsuc 2147483647))
unfolding value_of by_letter int_of plus_of minus_of ranged_of number_of number_value decimal number_form unsigned_form unsigned negative is_digit equal starts_with
least = refl

-- i2147483648 is out of range
past : value_of (bytes "i2147483648") ≡ no_value out_of_range
unfolding value_of by_letter int_of plus_of minus_of ranged_of number_of number_value decimal number_form unsigned_form unsigned negative is_digit equal starts_with
past = refl

-- a255 is a value
atom : value_of (bytes "a255") ≡ read_as (Atom 255)
unfolding value_of by_letter int_of plus_of minus_of ranged_of number_of number_value decimal number_form unsigned_form unsigned negative is_digit equal starts_with
atom = refl

-- p0, p17, p-1 and a256 are out of range; an unknown letter is malformed
refusals : map (λ (l : List ℕ). (value_of l).refusal) (
    bytes "p0"
    ∷ bytes "p17"
    ∷ bytes "p-1"
    ∷ bytes "a256"
    ∷ bytes "x1"
    ∷ bytes "a01"
    ∷ []
    ∷ [])
    ≡ out_of_range ∷ out_of_range ∷ out_of_range ∷ out_of_range ∷ malformed ∷ malformed ∷ malformed ∷ []
unfolding value_of by_letter int_of plus_of minus_of ranged_of number_of number_value decimal number_form unsigned_form unsigned negative is_digit equal starts_with
refusals = refl

-- the text of the least integer
text : value_text (Int (negsuc 2147483647)) ≡ bytes "i-2147483648"
unfolding value_text number_text int_text digits digits_in
text = refl

-- a last line without its byte 10 is the rest
lines : lines_of (bytes "a\n\nb") ≡ record { whole = bytes "a" ∷ [] ∷ []; rest = bytes "b" }
unfolding lines_of last_apart line_then split in_front
lines = refl

-- commas part fields, empty ones too
fields : fields_of (bytes "a,,b") ≡ bytes "a" ∷ [] ∷ bytes "b" ∷ []
unfolding fields_of split in_front
fields = refl
