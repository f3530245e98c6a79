-- Numbers and values that are written are read back. Assumes nothing.
--   Written n l     l is n in base ten: its value, its digits and its first digit
--   digit_bounds    what is a digit;  digits_written  `digits n` is n in base ten
--   number_read     a number without a minus;  minus_read  one with a minus
--   ranged_read     a number within its range;  tested_read  where a test says so
--   value_read      a value that keeps its limits
use mathlib.Core.Bool.{Bool, true, false, So, ◌&&◌}
use mathlib.Core.List.{List, [], ◌∷◌, ◌++◌}
use mathlib.Core.Path.{◌≡◌, refl, sym, ◌∙◌}
use Prim.Native.Nat.{ℕ, zero, suc, ◌+◌, ◌*◌, ◌/◌, ◌%◌, ◌≤◌, ◌<◌, min}
use Prim.Native.Char.{code}
use native.Mathlib.Omega.{arith}
use borrow.Author.Tests.{ne_eqb, le-leb, leb-true, ltb-false, ltb-true}
use lib.Dec.{eqb, leb, ltb}
use lib.IntN.{pos, negsuc}
use lib.ListN.{get_or, get_or-append}
use Rattle.node.specs.declared.Value.{Value}
use Rattle.node.specs.declared.Value.TheVariants.{Int, Atom, Pid}
use Rattle.node.specs.Lists.{all_of}
use Rattle.node.specs.Values.{fits_int, is_number, value_sound}
use Rattle.rules.specs.Answers.{done}
use Rattle.rules.proofs.All.{all_of_join, both, parts}
use Rattle.text.specs.Numbers.{ceiling, decimal, digit_value, is_digit, negative, number_form, number_of, number_value, ranged_of, unsigned, unsigned_form}
use Rattle.text.specs.Parts.{equal, starts_with}
use Rattle.text.specs.Values.{by_letter, int_of, minus_of, number_text, plus_of, read_as, value_of, value_text}
use Rattle.text.specs.Writing.{digits, digits_in, int_text}
use Rattle.text.proofs.Digits.{digits_more, digits_one, digits_some}

-- ---- digits

pub record Written (n : ℕ) (l : List ℕ) : Type 0 where
  pub value : decimal 0 l ≡ n
  pub digits : So (all_of is_digit l)
  pub first : 1 ≤ n → get_or l 0 (code "0") ≡ code "0" → ⊥

pub digit_bounds : (b : ℕ) → So (is_digit b) → (code "0" ≤ b) × (b ≤ code "9")
unfolding is_digit
digit_bounds b h = let w = parts (leb (code "0") b) (leb b (code "9")) h in (leb-true (code "0") b w.0, leb-true b (code "9") w.1)

digit_is : (n : ℕ) → n < 10 → So (is_digit (code "0" + n))
unfolding is_digit
digit_is n h = both (le-leb (code "0") (code "0" + n) (omega arith)) (le-leb (code "0" + n) (code "9") (omega arith))

decimal_behind : (n : ℕ) (l r : List ℕ) → decimal n (l ++ r) ≡ decimal (decimal n l) r
unfolding decimal
decimal_behind n [] r = refl
decimal_behind n (b ∷ l) r = decimal_behind (n * 10 + digit_value b) l r

one_written : (n : ℕ) → n < 10 → Written n ((code "0" + n) ∷ [])
unfolding decimal
one_written n h = record { value = omega arith; digits = both (digit_is n h) refl; first = λ a e. omega arith }

more_written : (n : ℕ) → 10 ≤ n → Written (n / 10) (digits (n / 10)) → Written n (digits (n / 10) ++ ((code "0" + n % 10) ∷ []))
unfolding decimal
more_written n h w =
    let last = (code "0" + n % 10) ∷ [] in
    record {
      value = decimal_behind 0 (digits (n / 10)) last ∙ omega (arith, w.value);
      digits = all_of_join is_digit (digits (n / 10)) last w.digits (both (digit_is (n % 10) (omega arith)) refl);
      first = λ a e. w.first (omega arith) (sym (get_or-append (digits (n / 10)) last (code "0") 0 (digits_some (n / 10))) ∙ e);
    }

written_up : (f n : ℕ) → n ≤ f → Written n (digits n)
written_up zero n h = rw (digits_one n (omega arith)) (one_written n (omega arith))
written_up (suc f) n h = by_size (ltb n 10) refl (λ m. written_up f (n / 10) (omega arith))
  where
    by_size : (t : Bool) → ltb n 10 ≡ t → (10 ≤ n → Written (n / 10) (digits (n / 10))) → Written n (digits n)
    by_size true e ih = let few = ltb-true n 10 e in rw (digits_one n few) (one_written n few)
    by_size false e ih = let many = ltb-false n 10 e in rw (digits_more n many) (more_written n many (ih many))

pub digits_written : (n : ℕ) → Written n (digits n)
digits_written n = written_up n n (omega arith)

-- ---- numbers: digits b ∷ l of a number that is not 0, and then with a minus before them

module _ (b : ℕ) (l : List ℕ) (n : ℕ) (some : 1 ≤ n) (few : n ≤ ceiling) (w : Written n (b ∷ l)) where
  digit_low : code "0" ≤ b
  digit_low = (digit_bounds b (parts (is_digit b) (all_of is_digit l) w.digits).0).0

  not_led : eqb b (code "0") ≡ false
  not_led = ne_eqb b (code "0") (w.first some)

  formed : unsigned_form (b ∷ l) ≡ true
  unfolding unsigned_form
  formed = rw not_led w.digits

  held : min (decimal 0 (b ∷ l)) ceiling ≡ n
  held = omega (arith, w.value)

  plus_led : number_of (b ∷ l) ≡ done (record { minus = false; value = n })
  unfolding number_of number_form number_value unsigned negative starts_with equal
  plus_led = simp (ne_eqb b (code "-") (λ e. omega (arith, digit_low, e)), ne_eqb (code "-") b (λ e. omega (arith, digit_low, e)), formed, held)

  minus_led : number_of (code "-" ∷ b ∷ l) ≡ done (record { minus = true; value = n })
  unfolding number_of number_form number_value unsigned negative starts_with equal
  minus_led = simp (not_led, formed, held)

signs_read : (l : List ℕ) (n : ℕ) → 1 ≤ n → n ≤ ceiling → Written n l
    → (number_of l ≡ done (record { minus = false; value = n })) × (number_of (code "-" ∷ l) ≡ done (record { minus = true; value = n }))
signs_read [] n some few w = absurd (w.first some refl)
signs_read (b ∷ l) n some few w = (plus_led b l n some few w, minus_led b l n some few w)

pub number_read : (n : ℕ) → n ≤ 4294967296 → number_of (digits n) ≡ done (record { minus = false; value = n })
unfolding number_of number_form number_value unsigned unsigned_form negative starts_with equal decimal digits digits_in
number_read zero h = refl
number_read (suc n) h = (signs_read (digits (suc n)) (suc n) (omega arith) h (digits_written (suc n))).0

pub minus_read : (n : ℕ) → suc n ≤ 4294967296 → number_of (code "-" ∷ digits (suc n)) ≡ done (record { minus = true; value = suc n })
minus_read n h = (signs_read (digits (suc n)) (suc n) (omega arith) h (digits_written (suc n))).1

pub ranged_read : (n low high : ℕ) → low ≤ n → n ≤ high → high ≤ 255 → ranged_of (number_of (digits n)) low high ≡ record { refusal = 0; number = n }
unfolding ranged_of
ranged_read n low high a b h = rw (number_read n (omega arith), le-leb low n a, le-leb n high b)

pub tested_read : (n low high : ℕ) → high ≤ 255 → So (leb low n && leb n high) → ranged_of (number_of (digits n)) low high ≡ record { refusal = 0; number = n }
tested_read n low high h f = let w = parts (leb low n) (leb n high) f in ranged_read n low high (leb-true low n w.0) (leb-true n high w.1) h

-- ---- values

pub value_read : (v : Value) → So (value_sound v) → value_of (value_text v) ≡ read_as v
unfolding value_of by_letter value_text number_text int_text int_of plus_of minus_of fits_int is_number
value_read (Int (pos n)) h = let most = leb-true n 2147483647 h in rw (number_read n (omega arith), h)
value_read (Int (negsuc n)) h =
    let most = leb-true n 2147483647 (parts (leb n 2147483647) true h).0 in
    rw (minus_read n (omega arith), le-leb (suc n) 2147483648 (omega arith))
value_read (Atom a) h = rw (ranged_read a 0 255 (omega arith) (leb-true a 255 h) (omega arith))
value_read (Pid i) h = rw (tested_read i.0 1 16 (omega arith) h)
