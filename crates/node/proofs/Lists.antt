-- Laws of `firsts`, `leave`, `rising` and the tests of all elements, for elements of any type. Assumes nothing.
use mathlib.Core.Bool.{Bool, true, false, ◌&&◌, and_assoc, and-eq-true_iff}
use mathlib.Core.List.{List, [], ◌∷◌, ◌++◌, map}
use mathlib.Core.Path.{◌≡◌, refl, sym, ◌∙◌, ap}
use Prim.Native.Nat.{ℕ, zero, suc, ◌+◌, ◌≤◌, ◌<◌}
use native.Mathlib.Nat.{add-zero, le_of_suc-le-suc, not-suc-le-zero}
use native.Mathlib.Numerals.{add-one}
use native.Mathlib.Omega.{arith}
use lib.ListN.{length, get_or, take, drop, set, length-append, length-map, drop_of_length-le, get_or-map, get_or-eq_default}
use lib.Seq.{drop-cons, sets}
use Rattle.node.specs.Lists.{firsts, leave, rising, all_from, all_of, all_two}

module _ {A : Type 0} where
  pub firsts_length : (d : A) (n : ℕ) (l : List A) → length (firsts d n l) ≡ n
  firsts_length d zero l = refl
  firsts_length d (suc n) [] = ap suc (firsts_length d n [])
  firsts_length d (suc n) (x ∷ l) = ap suc (firsts_length d n l)

  pub firsts_take : (d : A) (n : ℕ) (l : List A) → n ≤ length l → firsts d n l ≡ take n l
  firsts_take d zero l h = refl
  firsts_take d (suc n) [] h = absurd (not-suc-le-zero h)
  firsts_take d (suc n) (x ∷ l) h = ap (λ (r : List A). x ∷ r) (firsts_take d n l (le_of_suc-le-suc h))

  pub firsts_get_d : (d : A) (n : ℕ) (l : List A) (k : ℕ) → k < n → get_or (firsts d n l) k d ≡ get_or l k d
  firsts_get_d d zero l k h = absurd (not-suc-le-zero h)
  firsts_get_d d (suc n) [] zero h = refl
  firsts_get_d d (suc n) [] (suc k) h = firsts_get_d d n [] k (le_of_suc-le-suc h)
  firsts_get_d d (suc n) (x ∷ l) zero h = refl
  firsts_get_d d (suc n) (x ∷ l) (suc k) h = firsts_get_d d n l k (le_of_suc-le-suc h)

  -- one more element behind those that are there
  pub firsts_join : (d x : A) (n : ℕ) (l : List A) → n < length l → firsts d (suc n) (set l n x) ≡ firsts d n l ++ (x ∷ [])
  firsts_join d x n [] h = absurd (not-suc-le-zero h)
  firsts_join d x zero (y ∷ l) h = refl
  firsts_join d x (suc n) (y ∷ l) h = ap (λ (r : List A). y ∷ r) (firsts_join d x n l (le_of_suc-le-suc h))

  -- the default behind a list changes none of its elements
  pub firsts_behind : (d : A) (n : ℕ) (l : List A) → firsts d n (l ++ (d ∷ [])) ≡ firsts d n l
  firsts_behind d zero l = refl
  firsts_behind d (suc zero) [] = refl
  firsts_behind d (suc (suc n)) [] = refl
  firsts_behind d (suc n) (x ∷ l) = ap (λ (r : List A). x ∷ r) (firsts_behind d n l)

  -- what is read past the elements
  pub past_blank : {B : Type 0} (f : A → B) (d : A) (l : List A) (k : ℕ) → length l ≤ k → f d ≡ f (get_or l k d)
  past_blank f d l k h = sym (ap f (get_or-eq_default l d {n = k} h))

  pub leave_length : (d : A) (k : ℕ) (l : List A) → length (leave d k l) ≡ length l
  leave_length d k [] = refl
  leave_length d zero (x ∷ l) = length-append l (d ∷ []) ∙ add-one (length l)
  leave_length d (suc k) (x ∷ l) = ap suc (leave_length d k l)

  pub map_append : {B : Type 0} (f : A → B) (l r : List A) → map f (l ++ r) ≡ map f l ++ map f r
  map_append f [] r = refl
  map_append {B} f (x ∷ l) r = ap (λ (t : List B). f x ∷ t) (map_append f l r)

  pub map_take : {B : Type 0} (f : A → B) (n : ℕ) (l : List A) → map f (take n l) ≡ take n (map f l)
  map_take f zero l = refl
  map_take f (suc n) [] = refl
  map_take {B} f (suc n) (x ∷ l) = ap (λ (t : List B). f x ∷ t) (map_take f n l)

  pub map_drop : {B : Type 0} (f : A → B) (n : ℕ) (l : List A) → map f (drop n l) ≡ drop n (map f l)
  map_drop f zero l = refl
  map_drop f (suc n) [] = refl
  map_drop f (suc n) (x ∷ l) = map_drop f n l

  -- within a list, what is read past its end does not matter
  pub get_d_in : (l : List A) (i : ℕ) (d e : A) → i < length l → get_or l i d ≡ get_or l i e
  get_d_in [] i d e h = absurd (not-suc-le-zero h)
  get_d_in (x ∷ l) zero d e h = refl
  get_d_in (x ∷ l) (suc i) d e h = get_d_in l i d e (le_of_suc-le-suc h)

  -- what an array and its count hold, each element as f reads it
  pub held_length : {B : Type 0} (f : A → B) (d : A) (n : ℕ) (l : List A) → length (map f (firsts d n l)) ≡ n
  held_length f d n l = length-map (firsts d n l) f ∙ firsts_length d n l

  pub held_at : {B : Type 0} (f : A → B) (d : A) (n : ℕ) (l : List A) (k : ℕ) → k < n → get_or (map f (firsts d n l)) k (f d) ≡ f (get_or l k d)
  held_at f d n l k h = get_or-map f (firsts d n l) k d ∙ ap f (firsts_get_d d n l k h)

  -- ---- tests of all elements, and the loops that make them

  module _ (f : ℕ → A → Bool) (l : List A) (k i : ℕ) (d : A) {g : Bool} where
    -- a loop's invariant is that what is left gives the goal, `g ≡ all_from f i (drop k l)`: a turn whose element passes
    pub all_more : k < length l → f i (get_or l k d) ≡ true → g ≡ all_from f i (drop k l) → g ≡ all_from f (i + 1) (drop (k + 1) l)
    all_more h e v = v ∙ rw (drop-cons l k d h, e, add-one k)

    -- a turn whose element fails
    pub all_stop : k < length l → f i (get_or l k d) ≡ false → g ≡ all_from f i (drop k l) → false ≡ g
    all_stop h e v = sym (v ∙ rw (drop-cons l k d h, e))

    -- no element is left
    pub all_end : length l ≤ k → g ≡ all_from f i (drop k l) → true ≡ g
    all_end h v = sym (v ∙ rw (drop_of_length-le l {i = k} h))

  -- what holds of all holds of each
  pub all_from_at : (f : ℕ → A → Bool) (i : ℕ) (l : List A) (k : ℕ) (d : A) → all_from f i l ≡ true → k < length l → f (i + k) (get_or l k d) ≡ true
  all_from_at f i [] k d e h = absurd (not-suc-le-zero h)
  all_from_at f i (x ∷ l) zero d e h = rw add-zero ((and-eq-true_iff (f i x) (all_from f (i + 1) l)).0 e).0
  all_from_at f i (x ∷ l) (suc k) d e h =
      ap (λ (j : ℕ). f j (get_or l k d)) (omega arith) ∙ all_from_at f (i + 1) l k d ((and-eq-true_iff (f i x) (all_from f (i + 1) l)).0 e).1 (le_of_suc-le-suc h)

  -- a test that does not look at the number
  pub all_of_from : (f : A → Bool) (i : ℕ) (l : List A) → all_of f l ≡ all_from (λ (k : ℕ) (x : A). f x) i l
  all_of_from f i [] = refl
  all_of_from f i (x ∷ l) = ap (λ (b : Bool). f x && b) (all_of_from f (i + 1) l)

  -- two tests at once
  pub all_from_both : (f g : ℕ → A → Bool) (i : ℕ) (l : List A) → all_from (λ (k : ℕ) (x : A). f k x && g k x) i l ≡ (all_from f i l && all_from g i l)
  all_from_both f g i [] = refl
  all_from_both f g i (x ∷ l) = ap (λ (b : Bool). f i x && g i x && b) (all_from_both f g (i + 1) l) ∙ swap (f i x) (g i x) (all_from f (i + 1) l) (all_from g (i + 1) l)
    where
      swap : (a b c d : Bool) → (a && b && (c && d)) ≡ (a && c && (b && d))
      swap false b c d = refl
      swap true false false d = refl
      swap true false true d = refl
      swap true true c d = refl

  -- a list beside a list that is made of it
  pub all_two_map : {B : Type 0} (f : A → B → Bool) (h : A → B) (l : List A) → all_two f l (map h l) ≡ all_of (λ (x : A). f x (h x)) l
  all_two_map f h [] = refl
  all_two_map f h (x ∷ l) = ap (λ (b : Bool). f x (h x) && b) (all_two_map f h l)

  pub all_of_append : (f : A → Bool) (l r : List A) → all_of f (l ++ r) ≡ (all_of f l && all_of f r)
  all_of_append f [] r = refl
  all_of_append f (x ∷ l) r = ap (λ (b : Bool). f x && b) (all_of_append f l r) ∙ sym (and_assoc (f x) (all_of f l) (all_of f r))

  -- ---- lists made of rising numbers

  pub map_rising_length : (h : ℕ → A) (i n : ℕ) → length (map h (rising i n)) ≡ n
  map_rising_length h i zero = refl
  map_rising_length h i (suc n) = ap suc (map_rising_length h (i + 1) n)

  pub map_rising_at : (h : ℕ → A) (i n k : ℕ) (d : A) → k < n → get_or (map h (rising i n)) k d ≡ h (i + k)
  map_rising_at h i zero k d g = absurd (not-suc-le-zero g)
  map_rising_at h i (suc n) zero d g = ap h (sym (add-zero i))
  map_rising_at h i (suc n) (suc k) d g = map_rising_at h (i + 1) n k d (le_of_suc-le-suc g) ∙ ap h (omega arith)

  -- a test of numbered elements that are made of their numbers
  pub all_from_rising : (f : ℕ → A → Bool) (h : ℕ → A) (i n : ℕ) → all_from f i (map h (rising i n)) ≡ all_of (λ (k : ℕ). f k (h k)) (rising i n)
  all_from_rising f h i zero = refl
  all_from_rising f h i (suc n) = ap (λ (b : Bool). f i (h i) && b) (all_from_rising f h (i + 1) n)

-- a store behind those that are there is one element more
pub sets_more : {A : Type 0} (l : List A) (i : ℕ) (xs : List A) (x : A) → set (sets l i xs) (i + length xs) x ≡ sets l i (xs ++ (x ∷ []))
sets_more {A} l i [] x = let e : i + 0 ≡ i = omega arith in ap (λ (k : ℕ). set l k x) e
sets_more {A} l i (y ∷ xs) x =
    let e : i + suc (length xs) ≡ suc i + length xs = omega arith in
    ap (λ (k : ℕ). set (sets (set l i y) (suc i) xs) k x) e ∙ sets_more (set l i y) (suc i) xs x
