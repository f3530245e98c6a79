-- A test over a list, and the proposition that it stands for; for elements of any type. Assumes nothing.
use mathlib.Core.Bool.{Bool, true, false, So, ◌&&◌, ◌||◌, and-eq-true_iff}
use mathlib.Core.List.{List, [], ◌∷◌, ◌++◌, map}
use mathlib.Core.Path.{◌≡◌, refl, ◌∙◌, ap}
use Prim.Native.Nat.{ℕ, zero, suc, ◌+◌, ◌-◌, ◌≤◌, ◌<◌}
use native.Mathlib.Nat.{not-suc-le-zero, le_of_suc-le-suc}
use native.Mathlib.Omega.{arith}
use lib.ListN.{length, get_or}
use Rattle.node.proofs.Lists.{all_from_at, all_of_append, map_rising_at, map_rising_length}
use Rattle.node.specs.Lists.{without, rising, all_from, all_of, all_two}

pub both : {a b : Bool} → So a → So b → So (a && b)
both {a} {b} h k = (and-eq-true_iff a b).1 (h, k)

pub parts : (a b : Bool) → So (a && b) → So a × So b
parts a b h = (and-eq-true_iff a b).0 h

-- where not one of two holds, the first does not
pub or_left : (a b : Bool) → (a || b) ≡ false → a ≡ false
or_left true b h = h
or_left false b h = refl

module _ {A : Type 0} (f : ℕ → A → Bool) (d : A) where
  pub all_from_of : (i : ℕ) (l : List A) → ((k : ℕ) → k < length l → So (f (i + k) (get_or l k d))) → So (all_from f i l)
  all_from_of i [] h = refl
  all_from_of i (x ∷ l) h =
      let e : i + 0 ≡ i = omega arith in
      both (rw e at (h 0 (omega arith))) (all_from_of (i + 1) l (λ k g. let q : i + suc k ≡ i + 1 + k = omega arith in rw q at (h (suc k) (omega arith))))

module _ {A : Type 0} (f : A → Bool) where
  pub all_of_at : (d : A) (l : List A) → So (all_of f l) → (k : ℕ) → k < length l → So (f (get_or l k d))
  all_of_at d [] h k g = absurd (not-suc-le-zero g)
  all_of_at d (x ∷ l) h zero g = (parts (f x) (all_of f l) h).0
  all_of_at d (x ∷ l) h (suc k) g = all_of_at d l (parts (f x) (all_of f l) h).1 k (le_of_suc-le-suc g)

  -- where the default passes too, every index does
  pub all_of_any : (d : A) (l : List A) → So (f d) → So (all_of f l) → (k : ℕ) → So (f (get_or l k d))
  all_of_any d [] g h zero = g
  all_of_any d [] g h (suc k) = g
  all_of_any d (x ∷ l) g h zero = (parts (f x) (all_of f l) h).0
  all_of_any d (x ∷ l) g h (suc k) = all_of_any d l g (parts (f x) (all_of f l) h).1 k

  pub all_of_join : (l r : List A) → So (all_of f l) → So (all_of f r) → So (all_of f (l ++ r))
  all_of_join l r h g = rw (all_of_append f l r) (both h g)

  pub all_of_without : (k : ℕ) (l : List A) → So (all_of f l) → So (all_of f (without k l))
  all_of_without k [] h = refl
  all_of_without zero (x ∷ l) h = (parts (f x) (all_of f l) h).1
  all_of_without (suc k) (x ∷ l) h = let t = parts (f x) (all_of f l) h in both t.0 (all_of_without k l t.1)

  pub all_of_map : {B : Type 0} (g : B → A) (l : List B) → all_of f (map g l) ≡ all_of (λ b. f (g b)) l
  all_of_map g [] = refl
  all_of_map g (b ∷ l) = ap (λ (t : Bool). f (g b) && t) (all_of_map g l)

pub without_length : {A : Type 0} (k : ℕ) (l : List A) → length (without k l) ≤ length l
without_length k [] = omega arith
without_length zero (x ∷ l) = omega arith
without_length (suc k) (x ∷ l) = let h = without_length k l in omega arith

pub rising_at : (i n k d : ℕ) → k < n → get_or (rising i n) k d ≡ i + k
rising_at i zero k d h = absurd (not-suc-le-zero h)
rising_at i (suc n) zero d h = omega arith
rising_at i (suc n) (suc k) d h = rising_at (i + 1) n k d (le_of_suc-le-suc h) ∙ omega arith

-- a table, row by row: what is said of each entry with its number, as row then row then .. last
infixr 30 ◌then◌
pub data Each {A : Type 0} (P : ℕ → A → Type 0) : ℕ → List A → Type 0 where
  last : {k : ℕ} → Each P k []
  ◌then◌ : {k : ℕ} {x : A} {l : List A} → P k x → Each P (suc k) l → Each P k (x ∷ l)

pub each_at : {A : Type 0} (P : ℕ → A → Type 0) (k : ℕ) (l : List A) (d : A) → Each P k l → ((j : ℕ) → P j d) → (j : ℕ) → P (k + j) (get_or l j d)
each_at P k [] d last g zero = g (k + 0)
each_at P k [] d last g (suc j) = g (k + suc j)
each_at P k (x ∷ l) d (h then t) g zero = let e : k + 0 ≡ k = omega arith in rw e h
each_at P k (x ∷ l) d (h then t) g (suc j) = let e : k + suc j ≡ suc k + j = omega arith in rw e (each_at P (suc k) l d t g j)

-- a list made over i, i + 1, ..
module _ {A : Type 0} (g : ℕ → A) where
  -- a test of all of them, each with its number
  pub made_all : (f : ℕ → A → Bool) (i n : ℕ) → So (all_from f i (map g (rising i n))) → (k : ℕ) → i ≤ k → k < i + n → So (f k (g k))
  made_all f i n h k a b =
      let e : i + (k - i) ≡ k = omega arith in
      let t = all_from_at f i (map g (rising i n)) (k - i) (g i) h (rw (map_rising_length g i n) (omega arith)) in
      rw (map_rising_at g i n (k - i) (g i) (omega arith), e) at t

  pub all_made : (f : ℕ → A → Bool) (i n : ℕ) → ((k : ℕ) → i ≤ k → k < i + n → So (f k (g k))) → So (all_from f i (map g (rising i n)))
  all_made f i n h =
      all_from_of f (g i) i (map g (rising i n)) (λ k b.
      let c : k < n = rw (map_rising_length g i n) at b in
      rw (map_rising_at g i n k (g i) c) (h (i + k) (omega arith) (omega arith)))

-- ---- two lists

-- of a list made from another, the element at a place within it
pub map_at : {A B : Type 0} (f : A → B) (l : List A) (k : ℕ) (d : A) (e : B) → k < length l → get_or (map f l) k e ≡ f (get_or l k d)
map_at f [] k d e h = absurd (not-suc-le-zero h)
map_at f (x ∷ l) zero d e h = refl
map_at f (x ∷ l) (suc k) d e h = map_at f l k d e (le_of_suc-le-suc h)

pub all_two_at : {A B : Type 0} (f : A → B → Bool) (g : A → B) (d : A) (l : List A) → So (all_two f l (map g l)) → (k : ℕ) → k < length l → So (f (get_or l k d) (g (get_or l k d)))
all_two_at f g d [] h k b = absurd (not-suc-le-zero b)
all_two_at f g d (x ∷ l) h zero b = (parts (f x (g x)) (all_two f l (map g l)) h).0
all_two_at f g d (x ∷ l) h (suc k) b = all_two_at f g d l (parts (f x (g x)) (all_two f l (map g l)) h).1 k (le_of_suc-le-suc b)
