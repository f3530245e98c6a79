-- Laws of the values that are read, one for each answer of the functions that read them. Assumes nothing.
use mathlib.Core.Bool.{Bool, true, false, cond}
use mathlib.Core.List.{List, [], ◌∷◌}
use mathlib.Core.Path.{◌≡◌, refl}
use Prim.Native.Char.{code}
use Prim.Native.Nat.{ℕ, zero, suc, ◌-◌}
use native.Mathlib.Omega.{arith}
use borrow.Author.Tests.{le-leb, leb-true, ne_eqb}
use lib.Dec.{leb}
use lib.IntN.{ℤ, pos, negsuc}
use lib.ListN.{length, take, drop, get_or}
use mir.Syntax.{w32}
use mir.Val.{SFits}
use Rattle.node.specs.declared.Value.TheVariants.{Int}
use Rattle.node.specs.declared.Value.{Value}
use Rattle.std.specs.List.{IsFirstAndRest}
use Rattle.rules.specs.Answers.{Answer, refused, done}
use Rattle.text.specs.declared.Fault.{Fault}
use Rattle.text.specs.declared.Fault.TheVariants.{Malformed, OutOfRange}
use Rattle.text.specs.declared.Number.{Number}
use Rattle.text.specs.declared.Number.TheVariants.{Plus, Minus}
use Rattle.text.specs.Numbers.{malformed, out_of_range, Signed, Ranged, no_number}
use Rattle.text.specs.Results.{fault_number, signed_of, amount, value_answer}
use Rattle.text.specs.Values.{Parsed, read_as, no_value, plus_of, minus_of, int_of, ranged_value, by_letter, value_of, letter_of, number_text, value_text}
use Rattle.text.specs.Writing.{Wrote}
use Rattle.text.proofs.Parts.{tail_part}
use Rattle.text.proofs.Writing.{wrote_then}

-- ---- integers
module _ (n : Number) {z : ℤ} (is : z ≡ amount n) where
  pub int_near : SFits w32 z → done (Int z) ≡ value_answer (int_of (done (signed_of n)))
  unfolding int_of plus_of minus_of
  int_near f = rw is (go n (rw is at f))
    where
      go : (k : Number) → SFits w32 (amount k) → done (Int (amount k)) ≡ value_answer (int_of (done (signed_of k)))
      go (Plus m) f = rw (le-leb m 2147483647 (omega (arith, f.sfits))) refl
      go (Minus zero) f = refl
      go (Minus (suc m)) f = rw (le-leb (suc m) 2147483648 (omega (arith, f.sfits))) refl

  pub int_far : (SFits w32 z → ⊥) → refused out_of_range ≡ value_answer (int_of (done (signed_of n)))
  unfolding int_of plus_of minus_of
  int_far f = go n (rw is at f)
    where
      go : (k : Number) → (SFits w32 (amount k) → ⊥) → refused out_of_range ≡ value_answer (int_of (done (signed_of k)))
      go (Plus m) f = near (leb m 2147483647) refl
        where
          near : (t : Bool) → leb m 2147483647 ≡ t → refused out_of_range ≡ value_answer (cond t (read_as (Int (pos m))) (no_value out_of_range))
          near true e = absurd (f (record { sfits = omega (arith, leb-true m 2147483647 e) }))
          near false e = refl
      go (Minus zero) f = absurd (f (record { sfits = omega arith }))
      go (Minus (suc m)) f = near (leb (suc m) 2147483648) refl
        where
          near : (t : Bool) → leb (suc m) 2147483648 ≡ t → refused out_of_range ≡ value_answer (cond t (read_as (Int (negsuc m))) (no_value out_of_range))
          near true e = absurd (f (record { sfits = omega (arith, leb-true (suc m) 2147483648 e) }))
          near false e = refl

-- ---- the letter
pub value_none : (s : List ℕ) {r : Parsed} → length s ≡ 0 → r ≡ no_value malformed → r ≡ value_of s
unfolding value_of
value_none [] h e = e
value_none (b ∷ l) h e = let no : ⊥ = omega arith in absurd no

pub value_led : (s : List ℕ) {b : ℕ} {l : List ℕ} {r : Answer Value} → IsFirstAndRest s b l → r ≡ value_answer (by_letter b l) → r ≡ value_answer (value_of s)
unfolding value_of
value_led s h e = rw h.0 e

-- the letter at the start of a text, and what follows it as a slice
pub value_by_letter : (s : List ℕ) {r : Parsed} → (length s ≡ 0 → ⊥) → r ≡ by_letter (get_or s 0 0) (take (length s - 1) (drop 1 s)) → r ≡ value_of s
unfolding value_of
value_by_letter [] h e = absurd (h refl)
value_by_letter (b ∷ l) h e = rw (tail_part (b ∷ l) 1) at e

pub value_other : {b : ℕ} (l : List ℕ) → (b ≡ code "i" → ⊥) → (b ≡ code "a" → ⊥) → (b ≡ code "p" → ⊥) → refused malformed ≡ value_answer (by_letter b l)
unfolding by_letter
value_other l i a p = rw (ne_eqb _ _ i, ne_eqb _ _ a, ne_eqb _ _ p)

-- a refusal as it is, and a number with a range
pub int_refused : (f : Fault) {q : Answer Signed} → refused (fault_number f) ≡ q → refused (fault_number f) ≡ value_answer (int_of q)
unfolding int_of
int_refused Malformed e = rw (← e)
int_refused OutOfRange e = rw (← e)

pub ranged_refused : (make : ℕ → Value) (f : Fault) {x : Ranged} → no_number (fault_number f) ≡ x → refused (fault_number f) ≡ value_answer (ranged_value make x)
ranged_refused make Malformed e = rw (← e)
ranged_refused make OutOfRange e = rw (← e)

pub ranged_done : (make : ℕ → Value) {n : ℕ} {x : Ranged} → record { refusal = 0; number = n } ≡ x → done (make n) ≡ value_answer (ranged_value make x)
ranged_done make e = rw (← e)

pub wrote_value : (v : Value) {old mid new text : List ℕ} {at letter e r : ℕ} → letter ≡ letter_of v → number_text v ≡ text
    → Wrote old at (letter ∷ []) mid e → Wrote mid e text new r → Wrote old at (value_text v) new r
unfolding value_text
wrote_value v h k p q = rw (← h, k) (wrote_then p q)
