-- Laws of the numbers that are read, one for each answer of the functions that read them. Assumes nothing.
use mathlib.Core.Bool.{Bool, true, false, cond}
use mathlib.Core.List.{List, [], ◌∷◌}
use mathlib.Core.Path.{◌≡◌, refl, sym, ap, ◌∙◌}
use Prim.Native.Nat.{ℕ, ◌+◌, ◌*◌, ◌≤◌, ◌<◌, min}
use Prim.Native.Char.{code}
use native.Mathlib.Omega.{arith}
use borrow.Author.Tests.{eq-eqb, ne_eqb, le-leb, lt-leb}
use lib.Dec.{eqb}
use lib.ListN.{length, drop, get_or, drop_of_length-le}
use Rattle.std.specs.Prelude.{Option, Some, None, slice_get, MatchOption}
use Rattle.std.specs.Bool.{then_some}
use Rattle.std.specs.Option.{ok_or, IsSomeAnd}
use Rattle.node.specs.Lists.{all_of}
use Rattle.node.specs.Texts.{bytes}
use Rattle.rules.specs.Answers.{Answer, refused, done}
use Rattle.text.specs.declared.Fault.TheVariants.{Malformed}
use Rattle.text.specs.declared.Number.{Number}
use Rattle.text.specs.declared.Number.TheVariants.{Plus, Minus}
use Rattle.text.specs.Numbers.{is_digit, unsigned_form, negative, unsigned, number_form, digit_value, decimal, number_value, ceiling, natural_of, malformed, out_of_range}
use Rattle.text.specs.Numbers.{Signed, number_of, no_number, ranged_of}
use Rattle.text.specs.Parts.{equal, starts_with}
use Rattle.text.specs.Results.{number_told}
use Rattle.text.proofs.Parts.{drop_at}

-- ---- values
-- holding the front of a number holds the number
pub decimal_held : (n : ℕ) (l : List ℕ) → min (decimal (min n ceiling) l) ceiling ≡ min (decimal n l) ceiling
unfolding decimal
decimal_held n [] = omega arith
decimal_held n (b ∷ l) =
    let front : min (min n ceiling * 10 + digit_value b) ceiling ≡ min (n * 10 + digit_value b) ceiling = omega arith in
    sym (decimal_held (min n ceiling * 10 + digit_value b) l)
    ∙ ap (λ (m : ℕ). min (decimal m l) ceiling) front
    ∙ decimal_held (n * 10 + digit_value b) l

-- the turns of the loop over digits: what is read of the value, with the digits from k on, gives the answer
module _ (s : List ℕ) (k n : ℕ) {g : Option ℕ} (i : cond (all_of is_digit (drop k s)) (Some (min (decimal n (drop k s)) ceiling)) None ≡ g) where
  pub digits_bad : k < length s → is_digit (get_or s k 0) ≡ false → None ≡ g
  digits_bad h e = rw (drop_at s k h, e) at i

  pub digits_more : {r : ℕ} → k < length s → is_digit (get_or s k 0) ≡ true → r ≡ min (n * 10 + digit_value (get_or s k 0)) ceiling
      → cond (all_of is_digit (drop (k + 1) s)) (Some (min (decimal r (drop (k + 1) s)) ceiling)) None ≡ g
  unfolding decimal
  digits_more h e q =
      let next : cond (all_of is_digit (drop (k + 1) s)) (Some (min (decimal (n * 10 + digit_value (get_or s k 0)) (drop (k + 1) s)) ceiling)) None ≡ g =
      rw (drop_at s k h, e) at i in
      ap (λ (m : ℕ). cond (all_of is_digit (drop (k + 1) s)) (Some m) None)
      (ap (λ (m : ℕ). min (decimal m (drop (k + 1) s)) ceiling) q ∙ decimal_held (n * 10 + digit_value (get_or s k 0)) (drop (k + 1) s)) ∙ next

  pub digits_end : length s ≤ k → n ≤ ceiling → Some n ≡ g
  unfolding decimal
  digits_end h w =
      let held : min n ceiling ≡ n = omega arith in
      let j : Some (min n ceiling) ≡ g = rw (drop_of_length-le s h) at i in rw held at j

-- ---- forms
pub natural_none : (s : List ℕ) → None ≡ slice_get s 0 → None ≡ natural_of (unsigned_form s) s
unfolding unsigned_form
natural_none [] h = refl
natural_none (b ∷ l) h = let no : ⊥ = cc in absurd no

pub natural_zero : (s : List ℕ) {b : ℕ} → Some b ≡ slice_get s 0 → b ≡ code "0" → then_some (eqb (length s) 1) 0 ≡ natural_of (unsigned_form s) s
unfolding unsigned_form equal decimal
natural_zero [] h e = let no : ⊥ = cc in absurd no
natural_zero (a ∷ []) h e = let same : a ≡ code "0" = cc in rw same
natural_zero (a ∷ c ∷ l) h e = let same : a ≡ code "0" = cc in simp (eq-eqb a (code "0") same, ne_eqb (length (a ∷ c ∷ l)) 1 (λ q. omega (arith, q)))

pub natural_other : (s : List ℕ) {b : ℕ} {r : Option ℕ} → Some b ≡ slice_get s 0 → (b ≡ code "0" → ⊥) → r ≡ natural_of (all_of is_digit s) s
    → r ≡ natural_of (unsigned_form s) s
unfolding unsigned_form
natural_other [] h e d = let no : ⊥ = cc in absurd no
natural_other (a ∷ l) h e d = rw (ne_eqb a (code "0") (λ q. e cc)) d

-- what is told of the form
pub natural_good : (u : Bool) (l : List ℕ) {n : ℕ} → Some n ≡ natural_of u l → (true ≡ u) × (n ≡ min (decimal 0 l) ceiling)
natural_good true l e = (refl, cc)
natural_good false l e = let no : ⊥ = cc in absurd no

pub natural_bad : (u : Bool) (l : List ℕ) → None ≡ natural_of u l → false ≡ u
natural_bad true l e = let no : ⊥ = cc in absurd no
natural_bad false l e = refl

-- ---- numbers
module _ (s : List ℕ) where
  pub number_zero : equal s (bytes "-0") ≡ true → refused malformed ≡ number_of s
  unfolding number_of number_form
  number_zero e = rw e

  module _ (hz : equal s (bytes "-0") ≡ false) where
    module _ (hm : starts_with (bytes "-") s ≡ true) where
      pub number_minus : {n : ℕ} → Some n ≡ natural_of (unsigned_form (drop 1 s)) (drop 1 s) → done (record { minus = true; value = n }) ≡ number_of s
      unfolding number_of number_form number_value unsigned negative
      number_minus h = let q = natural_good (unsigned_form (drop 1 s)) (drop 1 s) h in simp (hz, hm, ← q.0, q.1)

      pub number_minus_bad : None ≡ natural_of (unsigned_form (drop 1 s)) (drop 1 s) → refused malformed ≡ number_of s
      unfolding number_of number_form unsigned negative
      number_minus_bad h = let q = natural_bad (unsigned_form (drop 1 s)) (drop 1 s) h in simp (hz, hm, ← q)

    module _ (hm : starts_with (bytes "-") s ≡ false) where
      pub number_plus : {n : ℕ} → Some n ≡ natural_of (unsigned_form s) s → done (record { minus = false; value = n }) ≡ number_of s
      unfolding number_of number_form number_value unsigned negative
      number_plus h = let q = natural_good (unsigned_form s) s h in simp (hz, hm, ← q.0, q.1)

      pub number_plus_bad : None ≡ natural_of (unsigned_form s) s → refused malformed ≡ number_of s
      unfolding number_of number_form unsigned negative
      number_plus_bad h = let q = natural_bad (unsigned_form s) s h in simp (hz, hm, ← q)

-- what is read, by the value behind the minus, or of all
module _ (s : List ℕ) (hz : equal s (bytes "-0") ≡ false) where
  pub number_behind : starts_with (bytes "-") s ≡ true → (o : Option ℕ) (r : Option Number) → MatchOption o (r ≡ None) (λ n. IsSomeAnd r (λ x. x ≡ Minus n))
      → o ≡ natural_of (unsigned_form (drop 1 s)) (drop 1 s) → number_told (ok_or r Malformed) ≡ number_of s
  number_behind hm None r e h = rw e (number_minus_bad s hz hm h)
  number_behind hm (Some n) None e h = absurd e
  number_behind hm (Some n) (Some x) e h = rw e (number_minus s hz hm h)

  pub number_whole : starts_with (bytes "-") s ≡ false → (o : Option ℕ) (r : Option Number) → MatchOption o (r ≡ None) (λ n. IsSomeAnd r (λ x. x ≡ Plus n))
      → o ≡ natural_of (unsigned_form s) s → number_told (ok_or r Malformed) ≡ number_of s
  number_whole hm None r e h = rw e (number_plus_bad s hz hm h)
  number_whole hm (Some n) None e h = absurd e
  number_whole hm (Some n) (Some x) e h = rw e (number_plus s hz hm h)

-- ---- ranges: q is the number that was read
module _ {q : Answer Signed} (low high : ℕ) where
  pub ranged_malformed : {k : ℕ} → refused k ≡ q → no_number k ≡ ranged_of q low high
  unfolding ranged_of
  ranged_malformed is = rw (← is)

  pub ranged_minus : {m : ℕ} → done (record { minus = true; value = m }) ≡ q → no_number out_of_range ≡ ranged_of q low high
  unfolding ranged_of
  ranged_minus is = rw (← is)

  module _ {m : ℕ} (is : done (record { minus = false; value = m }) ≡ q) where
    pub ranged_low : m < low → no_number out_of_range ≡ ranged_of q low high
    unfolding ranged_of
    ranged_low h = rw (← is, lt-leb _ _ h)

    pub ranged_high : low ≤ m → high < m → no_number out_of_range ≡ ranged_of q low high
    unfolding ranged_of
    ranged_high l h = rw (← is, le-leb _ _ l, lt-leb _ _ h)

    pub ranged_number : low ≤ m → m ≤ high → record { refusal = 0; number = m } ≡ ranged_of q low high
    unfolding ranged_of
    ranged_number l h = rw (← is, le-leb _ _ l, le-leb _ _ h)
