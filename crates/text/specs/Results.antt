-- What the code's answers stand for, case by case.
--   fault_number f      the number that a text's writer is told of a fault: 11 or 12
--   signed_of n         the sign and the value of the code's `Number`
--   amount n            the integer that the code's `Number` is
--   number_told r       a number that was read: refused as malformed, or its sign and its value
--   ranged_told r       a number that was read with a range
--   value_told r        a value that was read: refused under 11 or 12, or the value
--   value_answer x      a value beside its refusal, as an answer
use Rattle.std.specs.Prelude.{true, false, ℕ, eqb, ℤ, pos, neg_ℤ, Result, Ok, Err}
use Rattle.node.specs.declared.Value.{Value}
use Rattle.rules.specs.Answers.{Answer, refused, done, need}
use Rattle.text.specs.declared.Fault.{Fault}
use Rattle.text.specs.declared.Fault.TheVariants.{Malformed, OutOfRange}
use Rattle.text.specs.declared.Number.{Number}
use Rattle.text.specs.declared.Number.TheVariants.{Plus, Minus}
use Rattle.text.specs.Numbers.{malformed, out_of_range, Signed, Ranged, no_number}
use Rattle.text.specs.Values.{Parsed}

abbrev pub fault_number : Fault → ℕ
fault_number Malformed = malformed
fault_number OutOfRange = out_of_range

abbrev pub signed_of : Number → Signed
signed_of (Plus n) = record { minus = false; value = n }
signed_of (Minus n) = record { minus = true; value = n }

abbrev pub amount : Number → ℤ
amount (Plus n) = pos n
amount (Minus n) = neg_ℤ (pos n)

abbrev pub number_told : Result Number Fault → Answer Signed
number_told (Ok n) = done (signed_of n)
number_told (Err f) = refused (fault_number f)

abbrev pub ranged_told : Result ℕ Fault → Ranged
ranged_told (Ok n) = record { refusal = 0; number = n }
ranged_told (Err f) = no_number (fault_number f)

abbrev pub value_told : Result Value Fault → Answer Value
value_told (Ok v) = done v
value_told (Err f) = refused (fault_number f)

abbrev pub value_answer : Parsed → Answer Value
value_answer x = need (eqb x.refusal 0) x.refusal (done x.value)
