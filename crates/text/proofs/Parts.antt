-- Laws of places, lines and words: what a loop over a text knows at a place of it. Assumes nothing.
--   drop_next drop_at           a list and a text from a place on;  tail_part  a slice with no end
--   place_after place_inside    where `find` answers
--   before_hit before_miss      how many bytes stand before the next c, by the byte at a place
--   place_hit place_miss place_none   the turns of `find`
--   split_at split_end           the parts from a place on, up to the next byte c and behind it
--   lines_at lines_rest lines_none    the lines from a place on: a line and those behind it, a line without byte 10, nothing
--   lines_few                   a text has no more whole lines than bytes
--   equal_true equal_self       `equal` is equality
--   equal_lem strip_lem         `equal` and `starts_with`, as the library's `==` and `strip_prefix` test them
--   starts_front                what `starts_with` says of a text
use mathlib.Core.Bool.{Bool, true, false, ◌&&◌, cond, false≢true}
use mathlib.Core.List.{List, [], ◌∷◌}
use mathlib.Core.Path.{◌≡◌, refl, sym, ap, ◌∙◌}
use Prim.Native.Nat.{ℕ, suc, ◌+◌, ◌-◌, ◌≤◌, ◌<◌}
use Prim.Native.Char.{code}
use native.Mathlib.Numerals.{add-one}
use native.Mathlib.Omega.{arith}
use borrow.Author.Tests.{eq-eqb, ne_eqb, eqb-true}
use lib.Dec.{eqb}
use lib.Pointwise.{pointwise}
use lib.ListN.{length, take, drop, get_or, length-drop, drop_of_length-le}
use lib.Seq.{drop-cons, drop-drop, take_all}
use Rattle.text.specs.Parts.{before, place_from, in_front, split, line_then, last_apart, lines_of, equal, starts_with}

-- a list from a place within it on
pub drop_next : {X : Type 0} (xs : List X) (k : ℕ) (d : X) → k < length xs → drop k xs ≡ get_or xs k d ∷ drop (k + 1) xs
drop_next xs k d h = rw add-one (drop-cons xs k d h)

pub drop_at : (s : List ℕ) (k : ℕ) → k < length s → drop k s ≡ get_or s k 0 ∷ drop (k + 1) s
drop_at s k h = drop_next s k 0 h

-- the part from k to the end, as a slice without an end gives it
pub tail_part : (l : List ℕ) (k : ℕ) → take (length l - k) (drop k l) ≡ drop k l
tail_part l k = take_all (length l - k) (drop k l) (omega (arith, length-drop k l))

-- ---- places
by_byte : (t : Bool) (m n : ℕ) → m ≤ n → cond t 0 (suc m) ≤ suc n
by_byte true m n h = omega arith
by_byte false m n h = omega arith

pub before_within : (c : ℕ) (l : List ℕ) → before c l ≤ length l
unfolding before
before_within c [] = omega arith
before_within c (b ∷ l) = by_byte (eqb b c) _ _ (before_within c l)

pub place_within : (c n : ℕ) (l : List ℕ) → place_from c n l ≤ length l
unfolding place_from
place_within c n l = omega arith

pub place_from_lem : (c n : ℕ) (l : List ℕ) → n ≤ length l → place_from c n l ≡ n + before c (drop n l)
unfolding place_from
place_from_lem c n l h = omega (arith, before_within c (drop n l), length-drop n l)

-- the bytes from k on, by the one at k
module _ (c : ℕ) (s : List ℕ) (k : ℕ) (h : k < length s) where
  pub before_hit : get_or s k 0 ≡ c → before c (drop k s) ≡ 0
  unfolding before
  before_hit e = rw (drop_at s k h, eq-eqb _ _ e)

  pub before_miss : {j : ℕ} → j ≡ k + 1 → (get_or s k 0 ≡ c → ⊥) → before c (drop k s) ≡ suc (before c (drop j s))
  unfolding before
  before_miss q e = rw (drop_at s k h, ne_eqb _ _ e, q)

module _ (c n : ℕ) (s : List ℕ) (k : ℕ) (i : k + before c (drop k s) ≡ n + before c (drop n s)) where
  pub place_hit : k < length s → get_or s k 0 ≡ c → k ≡ place_from c n s
  unfolding place_from
  place_hit h e = omega (arith, i, before_hit c s k h e)

  pub place_miss : k < length s → (get_or s k 0 ≡ c → ⊥) → k + 1 + before c (drop (k + 1) s) ≡ n + before c (drop n s)
  place_miss h e = omega (arith, i, before_miss c s k h {j = k + 1} refl e)

  pub place_none : length s ≤ k → length s ≡ place_from c n s
  unfolding place_from before
  place_none h = let z : before c (drop k s) ≡ 0 = rw (drop_of_length-le s h) in omega arith

-- ---- parts between bytes c
module _ (c b : ℕ) (l : List ℕ) where
  cut_one : (t : Bool) → eqb b c ≡ t → before c (b ∷ l) < suc (length l)
      → (before c l < length l → split c l ≡ take (before c l) l ∷ split c (drop (suc (before c l)) l))
      → split c (b ∷ l) ≡ take (before c (b ∷ l)) (b ∷ l) ∷ split c (drop (suc (before c (b ∷ l))) (b ∷ l))
  unfolding split before in_front
  cut_one true e h ih = simp e
  cut_one false e h ih = let i = ih (omega (arith, simp e at h)) in simp (e, i)

  last_one : (t : Bool) → eqb b c ≡ t → suc (length l) ≤ before c (b ∷ l)
      → (length l ≤ before c l → split c l ≡ l ∷ []) → split c (b ∷ l) ≡ (b ∷ l) ∷ []
  unfolding split before in_front
  last_one true e h ih = let z = simp e at h in let no : ⊥ = omega arith in absurd no
  last_one false e h ih = let i = ih (omega (arith, simp e at h)) in simp (e, i)

-- up to the first c is a part
pub split_cut : (c : ℕ) (l : List ℕ) → before c l < length l → split c l ≡ take (before c l) l ∷ split c (drop (suc (before c l)) l)
split_cut c [] h = let no : ⊥ = omega arith in absurd no
split_cut c (b ∷ l) h = cut_one c b l (eqb b c) refl h (split_cut c l)

-- with no c there is one part
pub split_last : (c : ℕ) (l : List ℕ) → length l ≤ before c l → split c l ≡ l ∷ []
unfolding split
split_last c [] h = refl
split_last c (b ∷ l) h = last_one c b l (eqb b c) refl h (split_last c l)

-- there is always a part
pub split_some : (c : ℕ) (l : List ℕ) → (p : List ℕ) × (ps : List (List ℕ)) × (split c l ≡ p ∷ ps)
unfolding split in_front
split_some c [] = ([], [], refl)
split_some c (b ∷ l) = inner (eqb b c) (split c l)
  where
    inner : (t : Bool) (qs : List (List ℕ)) → (p : List ℕ) × (ps : List (List ℕ)) × (in_front t b qs ≡ p ∷ ps)
    inner true qs = ([], qs, refl)
    inner false [] = (b ∷ [], [], refl)
    inner false (q ∷ qs) = (b ∷ q, qs, refl)

-- ---- from a place on: e is where `find` says that the next c is
module _ (c : ℕ) (s : List ℕ) {at e : ℕ} (w : at ≤ length s) (h : e ≡ place_from c at s) where
  distance : before c (drop at s) ≡ e - at
  distance = omega (arith, place_from_lem c at s w)

  pub place_after : at ≤ e
  place_after = omega (arith, place_from_lem c at s w)

  pub place_inside : e ≤ length s
  place_inside = omega (arith, place_within c at s)

  pub split_at : e < length s → split c (drop at s) ≡ take (e - at) (drop at s) ∷ split c (drop (e + 1) s)
  split_at l =
      let inside : before c (drop at s) < length (drop at s) = omega (arith, distance, place_after, length-drop at s) in
      let j : at + suc (e - at) ≡ e + 1 = omega (arith, place_after) in
      split_cut c (drop at s) inside ∙ rw (distance, drop-drop (suc (e - at)) at s, j)

  pub split_end : length s ≤ e → split c (drop at s) ≡ drop at s ∷ []
  split_end l = split_last c (drop at s) (omega (arith, distance, length-drop at s))

  -- up to e is then all that is left
  pub rest_part : length s ≤ e → take (e - at) (drop at s) ≡ drop at s
  rest_part l = take_all (e - at) (drop at s) (omega (arith, length-drop at s))

module _ (s : List ℕ) {at e : ℕ} (w : at ≤ length s) (h : e ≡ place_from (code "\n") at s) where
  pub lines_at : e < length s → lines_of (drop at s) ≡ line_then (take (e - at) (drop at s)) (lines_of (drop (e + 1) s))
  unfolding lines_of last_apart
  lines_at l = let q = split_some (code "\n") (drop (e + 1) s) in rw (split_at (code "\n") s w h l, q.2)

  pub lines_rest : length s ≤ e → lines_of (drop at s) ≡ record { whole = []; rest = drop at s }
  unfolding lines_of last_apart
  lines_rest l = ap last_apart (split_end (code "\n") s w h l)

pub lines_none : {at : ℕ} (s : List ℕ) → length s ≤ at → lines_of (drop at s) ≡ record { whole = []; rest = [] }
unfolding lines_of split last_apart
lines_none s h = rw (drop_of_length-le s h)

split_few : (c : ℕ) (l : List ℕ) → length (split c l) ≤ length l + 1
unfolding split in_front
split_few c [] = omega arith
split_few c (b ∷ l) = one_more (eqb b c) (split c l) (split_few c l)
  where
    one_more : (t : Bool) (qs : List (List ℕ)) → length qs ≤ length l + 1 → length (in_front t b qs) ≤ length (b ∷ l) + 1
    one_more true qs h = omega arith
    one_more false [] h = omega arith
    one_more false (q ∷ qs) h = omega arith

apart_few : (p : List ℕ) (ps : List (List ℕ)) → length (last_apart (p ∷ ps)).whole ≡ length ps
unfolding last_apart line_then
apart_few p [] = refl
apart_few p (q ∷ ps) = ap suc (apart_few q ps)

pub lines_few : (s : List ℕ) → length (lines_of s).whole ≤ length s
unfolding lines_of
lines_few s =
    let q = split_some (code "\n") s in
    let parts : length (split (code "\n") s) ≡ suc (length q.1) = ap length q.2 in
    rw q.2 (omega (arith, apart_few q.0 q.1, split_few (code "\n") s))

-- ---- words
pub equal_true : (k l : List ℕ) → equal k l ≡ true → k ≡ l
unfolding equal
equal_true [] [] e = refl
equal_true [] (b ∷ l) e = let z : ◌≡◌ {A = ℕ} 0 1 = cc in let no : ⊥ = omega arith in absurd no
equal_true (a ∷ k) [] e = let z : ◌≡◌ {A = ℕ} 0 1 = cc in let no : ⊥ = omega arith in absurd no
equal_true (a ∷ k) (b ∷ l) e = inner (eqb a b) refl e (equal_true k l)
  where
    inner : (t : Bool) → eqb a b ≡ t → (t && equal k l) ≡ true → (equal k l ≡ true → k ≡ l) → a ∷ k ≡ b ∷ l
    inner true s e ih = let h = eqb-true a b s in let i = ih e in cc
    inner false s e ih = let z : ◌≡◌ {A = ℕ} 0 1 = cc in let no : ⊥ = omega arith in absurd no

pub equal_self : (l : List ℕ) → equal l l ≡ true
unfolding equal
equal_self [] = refl
equal_self (b ∷ l) = rw (eq-eqb b b refl) (equal_self l)

eqb_turned : (a b : ℕ) → eqb a b ≡ eqb b a
eqb_turned a b = go (eqb a b) refl
  where
    go : (t : Bool) → eqb a b ≡ t → t ≡ eqb b a
    go true e = sym (eq-eqb b a (sym (eqb-true a b e)))
    go false e = sym (ne_eqb b a (λ q. false≢true (sym e ∙ eq-eqb a b (sym q))))

-- the library's `==` of two texts, and what its `strip_prefix` tests
pub equal_lem : (k l : List ℕ) → pointwise eqb k l ≡ equal k l
unfolding equal
equal_lem [] [] = refl
equal_lem [] (b ∷ l) = refl
equal_lem (a ∷ k) [] = refl
equal_lem (a ∷ k) (b ∷ l) = ap (λ (t : Bool). eqb a b && t) (equal_lem k l)

pub strip_lem : (k l : List ℕ) → pointwise eqb (take (length k) l) k ≡ starts_with k l
unfolding starts_with
strip_lem k l = turned (take (length k) l) k ∙ equal_lem k (take (length k) l)
  where
    turned : (j i : List ℕ) → pointwise eqb j i ≡ pointwise eqb i j
    turned [] [] = refl
    turned [] (b ∷ i) = refl
    turned (a ∷ j) [] = refl
    turned (a ∷ j) (b ∷ i) = rw (turned j i) (ap (λ (t : Bool). t && pointwise eqb i j) (eqb_turned a b))

-- what a text starts with
pub starts_front : (k l : List ℕ) → starts_with k l ≡ true → take (length k) l ≡ k
unfolding starts_with
starts_front k l h = sym (equal_true k (take (length k) l) h)
