-- Laws of sets of processes: a digit read, the set with one more and with one fewer, the lowest. Assumes nothing.
--   bits_of_with bits_of_without   the set with j, and without it, as sixteen answers
--   has_none has_with_other has_without_false   who is in them
--   lowest_start -here -next -end  the digits read one by one
--   told_some told_none told_number   what `lowest` answers, read as a number
--   lowest_number                  the lowest of a set that is not empty is a process number
use mathlib.Core.Bool.{Bool, true, false, cond, false≢true}
use mathlib.Core.List.{List, [], ◌∷◌}
use mathlib.Core.Logic.{◌≢◌}
use mathlib.Core.Path.{◌≡◌, refl, sym, ◌∙◌, ap}
use Rattle.std.specs.Prelude.{None, Some}
use Prim.Native.Nat.{ℕ, zero, suc, ◌+◌, ◌-◌, ◌*◌, ◌/◌, ◌%◌, ◌^◌, ◌≤◌, ◌<◌}
use native.Mathlib.Nat.{not-suc-le-zero, le_of_suc-le-suc, pow-suc}
use native.Mathlib.Omega.{arith}
use borrow.Author.Tests.{eqb-true, eqb-false, lt-ltb, le-ltb, ltb-true, ltb-false}
use lib.Dec.{eqb, ltb}
use lib.ListN.{length, get_or, set, drop, replicate, get_or-eq_default, drop_of_length-le}
use lib.Pow.{shr-shr, shl_exact}
use lib.Seq.{set-get_or, set_out, get_or-set_other}
use Rattle.node.specs.declared.Peers.{Peers}
use Rattle.node.specs.declared.ProcessNumber.{ProcessNumber}
use Rattle.node.specs.Sets.{bits, bits_of, no_peers, has, with_peer, without_peer, first_from, lowest_peer, peer_told}

-- ---- digits

bit_at : (n k b : ℕ) → k < n → get_or (bits n b) k false ≡ eqb (b / 2 ^ k % 2) 1
bit_at zero k b h = absurd (not-suc-le-zero h)
bit_at (suc n) zero b h = let e : b / 1 ≡ b = omega arith in ap (λ (x : ℕ). eqb (x % 2) 1) (sym e)
bit_at (suc n) (suc k) b h = bit_at n k (b / 2) (le_of_suc-le-suc h) ∙ ap (λ (x : ℕ). eqb (x % 2) 1) (shr-shr b 1 k ∙ ap (λ (x : ℕ). b / 2 ^ x) one)
  where
    one : 1 + k ≡ suc k
    one = omega arith

-- a digit that is 0 becomes 1
bits_with : (n k b : ℕ) → k < n → get_or (bits n b) k false ≡ false → bits n (b + 2 ^ k) ≡ set (bits n b) k true
bits_with zero k b h e = absurd (not-suc-le-zero h)
bits_with (suc n) zero b h e =
    let z : b % 2 ≡ 0 = let u = eqb-false (b % 2) 1 e in omega (arith, u) in
    let x : (b + 1) % 2 ≡ 1 = omega (arith, z) in
    let y : (b + 1) / 2 ≡ b / 2 = omega (arith, z) in
    rw (x, y)
bits_with (suc n) (suc k) b h e =
    let p = pow-suc 2 k in
    let x : (b + 2 ^ suc k) % 2 ≡ b % 2 = omega (arith, p) in
    let y : (b + 2 ^ suc k) / 2 ≡ b / 2 + 2 ^ k = omega (arith, p) in
    rw (x, y, bits_with n k (b / 2) (le_of_suc-le-suc h) e)

-- a digit that is 1 becomes 0
bits_without : (n k b : ℕ) → k < n → get_or (bits n b) k false ≡ true → (2 ^ k ≤ b) × (bits n (b - 2 ^ k) ≡ set (bits n b) k false)
bits_without zero k b h e = absurd (not-suc-le-zero h)
bits_without (suc n) zero b h e =
    let z : b % 2 ≡ 1 = eqb-true (b % 2) 1 e in
    let x : (b - 1) % 2 ≡ 0 = omega (arith, z) in
    let y : (b - 1) / 2 ≡ b / 2 = omega (arith, z) in
    (omega (arith, z), rw (x, y))
bits_without (suc n) (suc k) b h e =
    let p = pow-suc 2 k in
    let w = bits_without n k (b / 2) (le_of_suc-le-suc h) e in
    let l = w.0 in
    let x : (b - 2 ^ suc k) % 2 ≡ b % 2 = omega (arith, p, l) in
    let y : (b - 2 ^ suc k) / 2 ≡ b / 2 - 2 ^ k = omega (arith, p, l) in
    (omega (arith, p, l), rw (x, y, w.1))

-- and the number stays within n digits
with_fits : (n k b : ℕ) → k < n → b < 2 ^ n → get_or (bits n b) k false ≡ false → b + 2 ^ k < 2 ^ n
with_fits zero k b h f e = absurd (not-suc-le-zero h)
with_fits (suc n) zero b h f e =
    let p = pow-suc 2 n in
    let u = eqb-false (b % 2) 1 e in
    omega (arith, p, u, f)
with_fits (suc n) (suc k) b h f e =
    let p = pow-suc 2 k in
    let q = pow-suc 2 n in
    let g : b / 2 < 2 ^ n = omega (arith, q, f) in
    let w = with_fits n k (b / 2) (le_of_suc-le-suc h) g e in
    omega (arith, p, q, w)

-- 1 << k, within sixteen digits
pub shifted : (k : ℕ) → k < 16 → 1 * 2 ^ k % 65536 ≡ 2 ^ k
shifted k h = let z : 1 * 2 ^ k ≡ 2 ^ k = omega arith in shl_exact {a = 1} 1 k 16 (omega arith) (omega arith) ∙ z

-- ---- one for each answer of the methods

module _ (s : Peers) (j : ℕ) where
  pub has_past : 16 ≤ j - 1 → has s j ≡ false
  unfolding has bits_of
  has_past h = get_or-eq_default (bits 16 s.0) false {n = j - 1} h

  pub has_at : j - 1 < 16 → has s j ≡ eqb (s.0 / 2 ^ (j - 1) % 2) 1
  unfolding has bits_of
  has_at h = bit_at 16 (j - 1) s.0 h

  -- a member's number is within sixteen
  pub has_inside : has s j ≡ true → j - 1 < 16
  has_inside e = go (ltb (j - 1) 16) refl
    where
      go : (t : Bool) → ltb (j - 1) 16 ≡ t → j - 1 < 16
      go true q = ltb-true (j - 1) 16 q
      go false q = absurd (false≢true (sym (has_past (ltb-false (j - 1) 16 q)) ∙ e))

  pub with_past : 16 ≤ j - 1 → with_peer s j ≡ s
  unfolding with_peer
  with_past h = rw (le-ltb (j - 1) 16 h)

  pub with_there : has s j ≡ true → with_peer s j ≡ s
  unfolding with_peer has
  with_there e = rw (lt-ltb (j - 1) 16 (has_inside e), e)

  pub with_new : j - 1 < 16 → has s j ≡ false → with_peer s j ≡ record { 0 = s.0 + 2 ^ (j - 1) }
  unfolding with_peer has
  with_new h e = rw (lt-ltb (j - 1) 16 h, e)

  pub without_there : has s j ≡ true → without_peer s j ≡ record { 0 = s.0 - 2 ^ (j - 1) }
  unfolding without_peer has
  without_there e = rw e

  pub without_none : has s j ≡ false → without_peer s j ≡ s
  unfolding without_peer has
  without_none e = rw e

  pub new_fits : j - 1 < 16 → s.0 < 65536 → has s j ≡ false → s.0 + 2 ^ (j - 1) < 65536
  unfolding has bits_of
  new_fits h f e = with_fits 16 (j - 1) s.0 h f e

  pub there_least : has s j ≡ true → 2 ^ (j - 1) ≤ s.0
  unfolding has bits_of
  there_least e = (bits_without 16 (j - 1) s.0 (has_inside e) e).0

-- ---- the sets as sixteen answers

module _ (s : Peers) (j : ℕ) where
  pub bits_of_with : bits_of (with_peer s j) ≡ set (bits_of s) (j - 1) true
  unfolding with_peer bits_of
  bits_of_with = by_size (ltb (j - 1) 16) refl
    where
      by_digit : j - 1 < 16 → (t : Bool) → get_or (bits 16 s.0) (j - 1) false ≡ t → bits 16 (cond t s.0 (s.0 + 2 ^ (j - 1))) ≡ set (bits 16 s.0) (j - 1) true
      by_digit h true e = sym (rw (← e) (set-get_or (bits 16 s.0) (j - 1) false))
      by_digit h false e = bits_with 16 (j - 1) s.0 h e

      by_size : (t : Bool) → ltb (j - 1) 16 ≡ t → bits 16 (cond t (cond (get_or (bits 16 s.0) (j - 1) false) s.0 (s.0 + 2 ^ (j - 1))) s.0) ≡ set (bits 16 s.0) (j - 1) true
      by_size true h = by_digit (ltb-true (j - 1) 16 h) (get_or (bits 16 s.0) (j - 1) false) refl
      by_size false h = sym (set_out (bits 16 s.0) (j - 1) true (ltb-false (j - 1) 16 h))

  pub bits_of_without : bits_of (without_peer s j) ≡ set (bits_of s) (j - 1) false
  unfolding without_peer bits_of
  bits_of_without = go (get_or (bits 16 s.0) (j - 1) false) refl
    where
      inside : get_or (bits 16 s.0) (j - 1) false ≡ true → (t : Bool) → ltb (j - 1) 16 ≡ t → j - 1 < 16
      inside e true h = ltb-true (j - 1) 16 h
      inside e false h = absurd (false≢true (sym (get_or-eq_default (bits 16 s.0) false {n = j - 1} (ltb-false (j - 1) 16 h)) ∙ e))

      go : (t : Bool) → get_or (bits 16 s.0) (j - 1) false ≡ t → bits 16 (cond t (s.0 - 2 ^ (j - 1)) s.0) ≡ set (bits 16 s.0) (j - 1) false
      go true e = (bits_without 16 (j - 1) s.0 (inside e (ltb (j - 1) 16) refl) e).1
      go false e = sym (rw (← e) (set-get_or (bits 16 s.0) (j - 1) false))

  -- ---- who is in them

  pub has_with_other : (i : ℕ) → i - 1 ≢ j - 1 → has (with_peer s j) i ≡ has s i
  unfolding has
  has_with_other i h = ap (λ (l : List Bool). get_or l (i - 1) false) bits_of_with ∙ get_or-set_other (bits_of s) (j - 1) (i - 1) true false h

  pub has_without_false : (i : ℕ) → has s i ≡ false → has (without_peer s j) i ≡ false
  unfolding has
  has_without_false i h = ap (λ (l : List Bool). get_or l (i - 1) false) bits_of_without ∙ set_false (bits_of s) (j - 1) (i - 1) h
    where
      set_false : (l : List Bool) (k n : ℕ) → get_or l n false ≡ false → get_or (set l k false) n false ≡ false
      set_false [] k n e = e
      set_false (x ∷ l) zero zero e = refl
      set_false (x ∷ l) zero (suc n) e = e
      set_false (x ∷ l) (suc k) zero e = e
      set_false (x ∷ l) (suc k) (suc n) e = set_false l k n e

pub has_none : (j : ℕ) → has no_peers j ≡ false
unfolding has bits_of
has_none j = none_at 16 (j - 1)
  where
    none_at : (n k : ℕ) → get_or (replicate n false) k false ≡ false
    none_at zero k = refl
    none_at (suc n) zero = refl
    none_at (suc n) (suc k) = none_at n k

-- ---- the lowest

-- read one by one: found at k, or not at k
module _ (l : List Bool) (k : ℕ) where
  first_here : k < length l → get_or l k false ≡ true → first_from (k + 1) (drop k l) ≡ k + 1
  first_here h e = go l k (k + 1) h e
    where
      go : (l : List Bool) (k i : ℕ) → k < length l → get_or l k false ≡ true → first_from i (drop k l) ≡ i
      go [] k i h e = absurd (not-suc-le-zero h)
      go (x ∷ l) zero i h e = rw e
      go (x ∷ l) (suc k) i h e = go l k i (le_of_suc-le-suc h) e

  first_next : k < length l → get_or l k false ≡ false → first_from (k + 1) (drop k l) ≡ first_from (k + 2) (drop (k + 1) l)
  first_next h e =
      let x : k + 1 + 1 ≡ k + 2 = omega arith in
      let y : suc k ≡ k + 1 = omega arith in
      go l k (k + 1) h e ∙ ap (λ (i : ℕ). first_from i (drop (suc k) l)) x ∙ ap (λ (n : ℕ). first_from (k + 2) (drop n l)) y
    where
      go : (l : List Bool) (k i : ℕ) → k < length l → get_or l k false ≡ false → first_from i (drop k l) ≡ first_from (i + 1) (drop (suc k) l)
      go [] k i h e = absurd (not-suc-le-zero h)
      go (x ∷ l) zero i h e = rw e
      go (x ∷ l) (suc k) i h e = go l k i (le_of_suc-le-suc h) e

bits_length : (n b : ℕ) → length (bits n b) ≡ n
bits_length zero b = refl
bits_length (suc n) b = ap suc (bits_length n (b / 2))

pub bits_of_length : (s : Peers) → length (bits_of s) ≡ 16
unfolding bits_of
bits_of_length s = bits_length 16 s.0

pub lowest_start : (s : Peers) → lowest_peer s ≡ first_from 1 (drop 0 (bits_of s))
unfolding lowest_peer
lowest_start s = refl

-- and so on from process j
module _ (s : Peers) (j : ℕ) (least : 1 ≤ j) where
  back : j - 1 + 1 ≡ j
  back = omega arith

  pub lowest_here : j ≤ 16 → has s j ≡ true → first_from j (drop (j - 1) (bits_of s)) ≡ j
  unfolding has
  lowest_here h e =
      ap (λ (i : ℕ). first_from i (drop (j - 1) (bits_of s))) (sym back)
      ∙ first_here (bits_of s) (j - 1) (rw (bits_of_length s) (omega arith)) e
      ∙ back

  pub lowest_next : j ≤ 16 → has s j ≡ false → first_from j (drop (j - 1) (bits_of s)) ≡ first_from (j + 1) (drop (j + 1 - 1) (bits_of s))
  unfolding has
  lowest_next h e =
      let x : j - 1 + 2 ≡ j + 1 = omega arith in
      let y : j - 1 + 1 ≡ j + 1 - 1 = omega arith in
      ap (λ (i : ℕ). first_from i (drop (j - 1) (bits_of s))) (sym back)
      ∙ first_next (bits_of s) (j - 1) (rw (bits_of_length s) (omega arith)) e
      ∙ ap (λ (i : ℕ). first_from i (drop (j - 1 + 1) (bits_of s))) x
      ∙ ap (λ (i : ℕ). first_from (j + 1) (drop i (bits_of s))) y

  pub lowest_end : 17 ≤ j → first_from j (drop (j - 1) (bits_of s)) ≡ 0
  lowest_end h = ap (first_from j) (drop_of_length-le (bits_of s) {i = j - 1} (rw (bits_of_length s) (omega arith)))

-- what `lowest` answers, read as a number
pub told_some : (n : ℕ) (j : ProcessNumber) → peer_told n ≡ Some j → (n ≡ j.0) × (0 < n)
told_some zero j e = cc
told_some (suc n) j e = (cc, omega arith)

pub told_none : (n : ℕ) → peer_told n ≡ None → n ≡ 0
told_none zero e = refl
told_none (suc n) e = cc

pub told_number : (n : ℕ) → 1 ≤ n → peer_told n ≡ Some (record { 0 = n })
told_number zero h = absurd (not-suc-le-zero h)
told_number (suc n) h = refl

first_range : (i : ℕ) (l : List Bool) (j : ℕ) → first_from i l ≡ suc j → (i ≤ suc j) × (suc j < i + length l)
first_range i [] j e = absurd (let z : 0 ≡ suc j = e in omega arith)
first_range i (true ∷ l) j e = (omega arith, omega arith)
first_range i (false ∷ l) j e = let w = first_range (i + 1) l j e in (omega arith, omega arith)

pub lowest_number : (s : Peers) (j : ℕ) → lowest_peer s ≡ suc j → suc j ≤ 16
unfolding lowest_peer bits_of
lowest_number s j e = let w = first_range 1 (bits 16 s.0) j e in omega arith
