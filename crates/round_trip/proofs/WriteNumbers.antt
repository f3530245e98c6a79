-- A number or a value that is read is the text that is written of it, so each value has one text. Assumes nothing.
--   canonical        digits in their form are those of their value
--   starts_written   a text that starts with another is that one and what stands behind it
--   number_cases     what holds of each answer that reading a number can give, with the text that gives it, holds of the answer
--   ranged_written   a number within its range;  value_written  a value
use mathlib.Core.Bool.{Bool, true, false, So, ◌&&◌, not, cond, false≢true}
use mathlib.Core.List.{List, [], ◌∷◌, ◌++◌, append-nil}
use mathlib.Core.Path.{◌≡◌, refl, sym, ap, ◌∙◌}
use Prim.Native.Nat.{ℕ, zero, suc, ◌+◌, ◌-◌, ◌*◌, ◌/◌, ◌%◌, ◌≤◌, min}
use Prim.Native.Char.{code}
use native.Mathlib.Omega.{arith}
use borrow.Author.Tests.{eqb-true, eqb-false, leb-true, not-true}
use lib.Dec.{eqb, leb}
use lib.IntN.{pos, neg_ℤ}
use lib.ListN.{length, drop, take-append-drop}
use lib.Seq.{append_snoc}
use Rattle.node.specs.declared.Value.TheVariants.{Int, Atom}
use Rattle.node.specs.Lists.{all_of}
use Rattle.node.specs.Texts.{bytes}
use Rattle.node.specs.Values.{pid}
use Rattle.rules.specs.Answers.{Answer, refused, done, need}
use Rattle.rules.proofs.All.{parts}
use Rattle.text.specs.Numbers.{malformed, out_of_range, is_digit, unsigned_form, negative, unsigned, number_form, digit_value, decimal, number_value, ceiling, Signed, number_of, no_number, ranged_of}
use Rattle.text.specs.Parts.{equal, starts_with}
use Rattle.text.specs.Values.{Parsed, no_value, read_as, plus_of, minus_of, int_of, ranged_value, by_letter, value_of, number_text, value_text}
use Rattle.text.specs.Writing.{digits, int_text}
use Rattle.text.proofs.Digits.{digits_one, digits_more}
use Rattle.text.proofs.Parts.{equal_true, equal_self, starts_front}
use Rattle.round_trip.proofs.ReadNumbers.{digit_bounds}

-- ---- digits
-- one digit more
digits_step : (n b : ℕ) → 1 ≤ n → 48 ≤ b → b ≤ 57 → digits (n * 10 + digit_value b) ≡ digits n ++ (b ∷ [])
digits_step n b h g k =
    let m = n * 10 + (b - 48) in
    let q : m / 10 ≡ n = omega arith in
    let r : 48 + m % 10 ≡ b = omega arith in
    digits_more m (omega arith) ∙ rw (q, r)

digits_fold : (n : ℕ) (l : List ℕ) → 1 ≤ n → So (all_of is_digit l) → digits (decimal n l) ≡ digits n ++ l
unfolding decimal
digits_fold n [] h g = sym (append-nil (digits n))
digits_fold n (b ∷ l) h g =
    let w = parts (is_digit b) (all_of is_digit l) g in
    let d = digit_bounds b w.0 in
    digits_fold (n * 10 + (b - 48)) l (omega (arith, h)) w.1
    ∙ ap (λ (x : List ℕ). x ++ l) (digits_step n b h d.0 d.1)
    ∙ append_snoc (digits n) b l

pub canonical : (l : List ℕ) → So (unsigned_form l) → digits (decimal 0 l) ≡ l
unfolding unsigned_form decimal
canonical [] h = absurd (false≢true h)
canonical (b ∷ l) h = go (eqb b 48) refl h
  where
    go : (t : Bool) → eqb b 48 ≡ t → So (cond t (equal l []) (all_of is_digit (b ∷ l))) → digits (decimal (0 * 10 + (b - 48)) l) ≡ b ∷ l
    go true e g = rw (eqb-true b 48 e, equal_true l [] g) (digits_one 0 (omega arith))
    go false e g =
        let w = parts (is_digit b) (all_of is_digit l) g in
        let d = digit_bounds b w.0 in
        let n = eqb-false b 48 e in
        let v : 0 * 10 + (b - 48) ≡ b - 48 = omega arith in
        let s : 48 + (b - 48) ≡ b = omega arith in
        rw v (digits_fold (b - 48) l (omega (arith, d, n)) w.1 ∙ ap (λ (x : List ℕ). x ++ l) (digits_one (b - 48) (omega (arith, d))) ∙ rw s)

-- ---- numbers with a sign
pub starts_written : (k l : List ℕ) → starts_with k l ≡ true → l ≡ k ++ drop (length k) l
starts_written k l h = sym (take-append-drop (length k) l) ∙ ap (λ (x : List ℕ). x ++ drop (length k) l) (starts_front k l h)

plus_written : (l : List ℕ) → So (unsigned_form (unsigned l)) → negative l ≡ false → l ≡ digits (number_value l)
unfolding number_value unsigned
plus_written l h e = let form : So (unsigned_form l) = rw e at h in rw e (sym (canonical l form))

minus_written : (l : List ℕ) → So (unsigned_form (unsigned l)) → negative l ≡ true → l ≡ code "-" ∷ digits (number_value l)
unfolding number_value unsigned negative
minus_written l h e =
    let form : So (unsigned_form (drop 1 l)) = rw e at h in
    starts_written (bytes "-") l e ∙ rw (e, canonical (drop 1 l) form)

-- "no .. -0"
minus_some : (l : List ℕ) → equal l (bytes "-0") ≡ false → (v : ℕ) → l ≡ code "-" ∷ digits v → 1 ≤ v
minus_some l h zero e = absurd (false≢true (sym h ∙ rw (e, digits_one 0 (omega arith)) (equal_self (bytes "-0"))))
minus_some l h (suc v) e = omega arith

module _ (P : Answer Signed → Type 0) (l : List ℕ)
    (none : P (refused malformed))
    (plus : (v : ℕ) → l ≡ digits v → P (done (record { minus = false; value = min v ceiling })))
    (minus : (v : ℕ) → 1 ≤ v → l ≡ code "-" ∷ digits v → P (done (record { minus = true; value = min v ceiling }))) where
  pub number_cases : P (number_of l)
  unfolding number_of number_form
  number_cases = go (number_form l) refl
    where
      signed : (m : Bool) → negative l ≡ m → So (number_form l) → P (done (record { minus = m; value = min (number_value l) ceiling }))
      signed true e h =
          let w = parts (not (equal l (bytes "-0"))) (unsigned_form (unsigned l)) h in
          let is = minus_written l w.1 e in
          minus (number_value l) (minus_some l (not-true (equal l (bytes "-0")) w.0) (number_value l) is) is
      signed false e h = plus (number_value l) (plus_written l (parts (not (equal l (bytes "-0"))) (unsigned_form (unsigned l)) h).1 e)

      go : (t : Bool) → number_form l ≡ t → P (need t malformed (done (record { minus = negative l; value = min (number_value l) ceiling })))
      go true e = signed (negative l) refl e
      go false e = none

-- ---- a number with a range
within_written : (l : List ℕ) (low high v : ℕ) → high ≤ 255 → l ≡ digits v → (t : Bool) → (leb low (min v ceiling) && leb (min v ceiling) high) ≡ t
    → let x = cond t (record { refusal = 0; number = min v ceiling }) (no_number out_of_range) in x.refusal ≡ 0 → l ≡ digits x.number
within_written l low high v h q true e g =
    let most = leb-true (min v ceiling) high (parts (leb low (min v ceiling)) (leb (min v ceiling) high) e).1 in
    let is : min v ceiling ≡ v = omega arith in
    rw is q
within_written l low high v h q false e g = absurd (omega (arith, g))

pub ranged_written : (l : List ℕ) (low high : ℕ) → high ≤ 255 → (ranged_of (number_of l) low high).refusal ≡ 0 → l ≡ digits (ranged_of (number_of l) low high).number
unfolding ranged_of
ranged_written l low high h =
    number_cases (λ (x : Answer Signed). (ranged_of x low high).refusal ≡ 0 → l ≡ digits (ranged_of x low high).number) l
    (λ e. absurd (omega (arith, e)))
    (λ v q. within_written l low high v h q _ refl)
    (λ v some q e. absurd (omega (arith, e)))

-- ---- values
abbrev Written : ℕ → List ℕ → Parsed → Type 0
Written b l x = x.refusal ≡ 0 → b ∷ l ≡ value_text x.value

plus_value : (l : List ℕ) (v : ℕ) → l ≡ digits v → Written (code "i") l (plus_of (min v ceiling))
unfolding plus_of value_text number_text int_text
plus_value l v q = go (leb (min v ceiling) 2147483647) refl
  where
    go : (t : Bool) → leb (min v ceiling) 2147483647 ≡ t → Written (code "i") l (cond t (read_as (Int (pos (min v ceiling)))) (no_value out_of_range))
    go true e h = let most = leb-true (min v ceiling) 2147483647 e in let is : min v ceiling ≡ v = omega arith in rw (is, q)
    go false e h = absurd (omega (arith, h))

minus_text : (v : ℕ) → 1 ≤ v → int_text (neg_ℤ (pos v)) ≡ code "-" ∷ digits v
unfolding int_text
minus_text zero h = absurd (omega (arith, h))
minus_text (suc v) h = refl

minus_value : (l : List ℕ) (v : ℕ) → 1 ≤ v → l ≡ code "-" ∷ digits v → Written (code "i") l (minus_of (min v ceiling))
unfolding minus_of value_text number_text
minus_value l v some q = go (leb (min v ceiling) 2147483648) refl
  where
    go : (t : Bool) → leb (min v ceiling) 2147483648 ≡ t → Written (code "i") l (cond t (read_as (Int (neg_ℤ (pos (min v ceiling))))) (no_value out_of_range))
    go true e h = let most = leb-true (min v ceiling) 2147483648 e in let is : min v ceiling ≡ v = omega arith in rw (is, minus_text v some, q)
    go false e h = absurd (omega (arith, h))

int_written : (l : List ℕ) → Written (code "i") l (int_of (number_of l))
unfolding int_of
int_written l = number_cases (λ (x : Answer Signed). Written (code "i") l (int_of x)) l (λ e. absurd (omega (arith, e))) (plus_value l) (minus_value l)

letter_written : (b : ℕ) (l : List ℕ) (s t u : Bool) → eqb b (code "i") ≡ s → eqb b (code "a") ≡ t → eqb b (code "p") ≡ u
    → Written b l (cond s (int_of (number_of l)) (cond t (ranged_value Atom (ranged_of (number_of l) 0 255)) (cond u (ranged_value pid (ranged_of (number_of l) 1 16)) (no_value malformed))))
unfolding value_text number_text
letter_written b l true t u i a p h = rw (eqb-true b (code "i") i) (int_written l h)
letter_written b l false true u i a p h = rw (eqb-true b (code "a") a) (ap (λ (r : List ℕ). code "a" ∷ r) (ranged_written l 0 255 (omega arith) h))
letter_written b l false false true i a p h = rw (eqb-true b (code "p") p) (ap (λ (r : List ℕ). code "p" ∷ r) (ranged_written l 1 16 (omega arith) h))
letter_written b l false false false i a p h = absurd (omega (arith, h))

pub value_written : (l : List ℕ) → (value_of l).refusal ≡ 0 → l ≡ value_text (value_of l).value
unfolding value_of by_letter
value_written [] h = absurd (omega (arith, h))
value_written (b ∷ l) h = letter_written b l _ _ _ refl refl refl h
