-- Bytes stored at once, and the digits of a number from the last on. Assumes nothing.
--   stored             a text that has room, stored at once;  stored_part stored_none  one that has room in part, and none
--   Front              what the loop over digits still has to store: those in front of the last ones
--   front_all          at its start;  front_more  at each turn;  front_few front_end  behind it, with the first digit
use mathlib.Core.List.{List, [], ◌∷◌, ◌++◌, append_assoc, append-nil}
use mathlib.Core.Path.{◌≡◌, refl, sym, ap, ◌∙◌}
use mathlib.Core.Logic.{⊎_elim}
use Prim.Native.Nat.{ℕ, suc, ◌+◌, ◌-◌, ◌/◌, ◌%◌, ◌≤◌, ◌<◌, min}
use Prim.Native.Char.{code}
use Rattle.std.proofs.lemmas.Bool.{cases_lt}
use native.Mathlib.Nat.{zero-add}
use native.Mathlib.Omega.{arith}
use borrow.Rule.Slice.PartMut.{put_mid}
use lib.ListN.{length, set, take, drop, length-append, length-set, take-append-drop, drop_of_length-le}
use lib.Seq.{sets, length-sets, sets-eq, set_comm, drop-drop, length-take-le}
use Rattle.text.specs.Writing.{top, Wrote, digits}
use Rattle.text.proofs.Digits.{digits_one, digits_more, digits_some}
use Rattle.text.proofs.Writing.{sets_append, sets_out}

module _ (o s : List ℕ) (at : ℕ) (w : length o ≤ top) {r : ℕ} (p : r ≡ min (at + length s) top) where
  part_stored : {k : ℕ} (t : List ℕ) → k ≡ length t → at + length t ≤ length o → put_mid at k o t ≡ sets o at t
  part_stored t same h =
      ap (λ (j : ℕ). put_mid at j o t) same ∙ ap (λ (l : List ℕ). take at o ++ (t ++ l)) (drop-drop (length t) at o)
      ∙ sym (append_assoc (take at o) t _) ∙ sym (sets-eq t o at h)

  pub stored : {k : ℕ} {y : List ℕ} → at + length s ≤ length o → k ≡ length s → y ≡ s → Wrote o at s (put_mid at k o y) r
  stored h same e = record { bytes = rw e (part_stored s same h); place = p; short = w }

  -- what is behind the end is lost
  pub stored_part : {k n : ℕ} {y : List ℕ} → at + n ≡ length o → n ≤ length s → k ≡ n → y ≡ take n s → Wrote o at s (put_mid at k o y) r
  stored_part {k} {n} {y} h few same e =
      let many : length (take n s) ≡ n = length-take-le n s few in record {
        bytes =
            rw e (part_stored (take n s) (omega arith) (omega arith))
            ∙ sym (sets_out (sets o at (take n s)) (at + length (take n s)) (drop n s) (omega (arith, length-sets o at (take n s))))
            ∙ sym (sets_append o at (take n s) (drop n s)) ∙ ap (sets o at) (take-append-drop n s);
        place = p;
        short = w;
      }

  pub stored_none : length o ≤ at → Wrote o at s o r
  stored_none h = record { bytes = sym (sets_out o at s h); place = p; short = w }

-- a store behind a text
sets_behind : (l : List ℕ) (i : ℕ) (s : List ℕ) (j a : ℕ) → i + length s ≤ j → sets (set l j a) i s ≡ set (sets l i s) j a
sets_behind l i [] j a h = refl
sets_behind l i (b ∷ s) j a h = ap (λ (r : List ℕ). sets r (suc i) s) (set_comm l j i a b (λ e. omega arith)) ∙ sets_behind (set l i b) (suc i) s j a (omega arith)

-- the k digits of m, stored into `now` from its start on, give those of n, stored into `old` so
pub record Front (old : List ℕ) (n : ℕ) (now : List ℕ) (k m : ℕ) : Type 0 where
  pub bytes : sets now 0 (digits m) ≡ sets old 0 (digits n)
  pub width : k ≡ length (digits m)
  pub few : k ≤ length (digits n)
  pub same : length now ≡ length old

pub front_all : (o : List ℕ) (n : ℕ) → length o ≡ length (digits n) → Front o n o (length o) n
front_all o n w = record { bytes = refl; width = w; few = omega (arith, w); same = refl }

module _ {o : List ℕ} {n : ℕ} {l : List ℕ} {k m : ℕ} (p : Front o n l k m) where
  pub front_wide : 10 ≤ m → k ≡ length (digits (m / 10)) + 1
  front_wide h = p.width ∙ ap length (digits_more m h) ∙ length-append (digits (m / 10)) ((code "0" + m % 10) ∷ [])

  front_many : 1 < k → 10 ≤ m
  front_many h = ⊎_elim (λ few. let one = ap length (digits_one m few) in absurd (omega (arith, p.width))) (λ many. many) (cases_lt m 10)

  pub front_few : k ≤ 1 → m < 10
  front_few h = ⊎_elim (λ few. few) (λ many. absurd (omega (arith, front_wide many, digits_some (m / 10)))) (cases_lt m 10)

  pub front_more : 1 < k → Front o n (set l (k - 1) (code "0" + m % 10)) (k - 1) (m / 10)
  front_more long =
      let h = front_many long in
      let is : k - 1 ≡ length (digits (m / 10)) = omega (arith, front_wide h) in record {
        bytes =
            sets_behind l 0 (digits (m / 10)) (k - 1) (code "0" + m % 10) (omega (arith, is))
            ∙ ap (λ (j : ℕ). set (sets l 0 (digits (m / 10))) j (code "0" + m % 10)) (is ∙ sym (zero-add (length (digits (m / 10)))))
            ∙ sym (sets_append l 0 (digits (m / 10)) ((code "0" + m % 10) ∷ [])) ∙ ap (sets l 0) (sym (digits_more m h)) ∙ p.bytes;
        width = is;
        few = omega (arith, p.few);
        same = length-set l (k - 1) (code "0" + m % 10) ∙ p.same;
      }

  pub front_end : k ≤ 1 → length o ≡ length (digits n) → set l 0 (code "0" + m) ≡ digits n
  front_end few w =
      ap (sets l 0) (sym (digits_one m (front_few few))) ∙ p.bytes ∙ sets-eq (digits n) o 0 (omega arith)
      ∙ rw (drop_of_length-le o {i = 0 + length (digits n)} (omega arith)) (append-nil (digits n))
