-- Laws of the letters of a word, by its number. Assumes nothing.
--   letters_more letters_end   the first letter and those behind it; none
--   left_letter                one letter more is written
--   letters_packed             the letters of a word's number are the word
--   packed_at packed_past      the number of a word in a table of words, and past it
use mathlib.Core.Bool.{So}
use mathlib.Core.List.{List, [], ◌∷◌, map}
use mathlib.Core.Path.{◌≡◌, refl, sym, ◌∙◌, ap}
use Prim.Native.Nat.{ℕ, zero, suc, ◌+◌, ◌-◌, ◌*◌, ◌/◌, ◌%◌, ◌≤◌, ◌<◌}
use native.Mathlib.Omega.{arith}
use borrow.Author.Tests.{le-leb, lt-leb, leb-true}
use lib.Dec.{leb}
use lib.ListN.{length, get_or, length-map, get_or-map}
use Rattle.node.specs.Lists.{all_of}
use Rattle.node.proofs.Lists.{get_d_in, past_blank}
use Rattle.rules.proofs.All.{parts}
use Rattle.text.specs.Writing.{Wrote}
use Rattle.text.proofs.Writing.{Left, left_more, left_none}
use Rattle.words.specs.Words.{is_letter, letters, letters_in, packed}

in_more : (f n : ℕ) → 1 < n → letters_in (suc f) n ≡ (96 + n % 32) ∷ letters_in f (n / 32)
unfolding letters_in
in_more f n h = rw (lt-leb n 1 h)

in_end : (f n : ℕ) → n ≤ 1 → letters_in f n ≡ []
unfolding letters_in
in_end zero n h = refl
in_end (suc f) n h = rw (le-leb n 1 h)

-- any bound that is high enough gives the same letters
enough : (f g n : ℕ) → n ≤ f → n ≤ g → letters_in f n ≡ letters_in g n
unfolding letters_in
enough zero g n h k = sym (in_end g n (omega arith))
enough (suc f) zero n h k = in_end (suc f) n (omega arith)
enough (suc f) (suc g) zero h k = in_end (suc f) 0 (omega arith) ∙ sym (in_end (suc g) 0 (omega arith))
enough (suc f) (suc g) (suc zero) h k = in_end (suc f) 1 (omega arith) ∙ sym (in_end (suc g) 1 (omega arith))
enough (suc f) (suc g) (suc (suc n)) h k =
    let m = suc (suc n) in
    in_more f m (omega arith)
    ∙ ap (λ (l : List ℕ). (96 + m % 32) ∷ l) (enough f g (m / 32) (omega arith) (omega arith))
    ∙ sym (in_more g m (omega arith))

pub letters_more : (n : ℕ) → 1 < n → letters n ≡ (96 + n % 32) ∷ letters (n / 32)
unfolding letters
letters_more zero h = absurd (omega arith)
letters_more (suc n) h = in_more n (suc n) h ∙ ap (λ (l : List ℕ). (96 + suc n % 32) ∷ l) (enough n (suc n / 32) (suc n / 32) (omega arith) (omega arith))

pub letters_end : (n : ℕ) → n ≤ 1 → letters n ≡ []
unfolding letters
letters_end n h = in_end n n h

-- ---- a loop that writes the letters, one at a turn
module _ (n : ℕ) {o text m : List ℕ} {a e : ℕ} (p : Left o a text m e (letters n)) where
  pub left_letter : {u : List ℕ} {r : ℕ} → 1 < n → Wrote m e ((96 + n % 32) ∷ []) u r → Left o a text u r (letters (n / 32))
  left_letter h q = left_more (rw (letters_more n h) at p) q

  pub left_letters_end : n ≤ 1 → Wrote o a text m e
  left_letters_end h = left_none (rw (letters_end n h) at p)

-- ---- words

packed_some : (w : List ℕ) → 1 ≤ packed w
unfolding packed
packed_some [] = omega arith
packed_some (b ∷ l) = omega (arith, packed_some l)

pub letters_packed : (w : List ℕ) → So (all_of is_letter w) → letters (packed w) ≡ w
unfolding packed
letters_packed [] h = letters_end 1 (omega arith)
letters_packed (b ∷ l) h =
    let w = parts (is_letter b) (all_of is_letter l) h in
    let d = parts (leb 97 b) (leb b 122) w.0 in
    let low = leb-true 97 b d.0 in
    let high = leb-true b 122 d.1 in
    let some = packed_some l in
    let n = (b - 96) + 32 * packed l in
    let digit : 96 + n % 32 ≡ b = omega (arith, low, high) in
    let rest : n / 32 ≡ packed l = omega (arith, low, high) in
    letters_more n (omega (arith, some))
    ∙ ap (λ (k : ℕ). k ∷ letters (n / 32)) digit
    ∙ ap (λ (k : ℕ). b ∷ letters k) rest
    ∙ ap (λ (r : List ℕ). b ∷ r) (letters_packed l w.1)

-- ---- a table of words

pub packed_at : (ws : List (List ℕ)) (k : ℕ) → k < length ws → get_or (map packed ws) k 0 ≡ packed (get_or ws k [])
packed_at ws k h = get_d_in (map packed ws) k 0 (packed []) (omega (arith, length-map ws packed)) ∙ get_or-map packed ws k []

pub packed_past : (ws : List (List ℕ)) (k : ℕ) → length ws ≤ k → 1 ≡ packed (get_or ws k [])
unfolding packed
packed_past ws k h = past_blank packed [] ws k h
