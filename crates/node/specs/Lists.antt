-- Arrays and lists, for elements of any type.
--   firsts d n l    the first n elements of l, d standing for those that l does not have: what an array and its count hold
--   leave d k l     l without its element k, the rest in their order and d behind; l itself where it has no element k
--   without k l     l without its element k, the rest in their order
--   rising i n      the n numbers i, i + 1, ..
--   all_from f i l   f holds of each element of l with its number, the first having number i
--   all_of f l       f holds of each element of l
--   all_two f k l    f holds of each element of k with the element of l at the same place
use Rattle.std.specs.Prelude.{Bool, true, ◌&&◌, List, [], ◌∷◌, ◌++◌, ℕ, zero, suc, ◌+◌}

module _ {A : Type 0} where
  abbrev pub firsts : A → ℕ → List A → List A
  firsts d zero l = []
  firsts d (suc n) [] = d ∷ firsts d n []
  firsts d (suc n) (x ∷ l) = x ∷ firsts d n l

  abbrev pub leave : A → ℕ → List A → List A
  leave d k [] = []
  leave d zero (x ∷ l) = l ++ (d ∷ [])
  leave d (suc k) (x ∷ l) = x ∷ leave d k l

  abbrev pub without : ℕ → List A → List A
  without k [] = []
  without zero (x ∷ l) = l
  without (suc k) (x ∷ l) = x ∷ without k l

  abbrev pub all_from : (ℕ → A → Bool) → ℕ → List A → Bool
  all_from f i [] = true
  all_from f i (x ∷ l) = f i x && all_from f (i + 1) l

  abbrev pub all_of : (A → Bool) → List A → Bool
  all_of f [] = true
  all_of f (x ∷ l) = f x && all_of f l

  abbrev pub all_two : {B : Type 0} → (A → B → Bool) → List A → List B → Bool
  all_two f [] l = true
  all_two f (x ∷ k) [] = true
  all_two f (x ∷ k) (y ∷ l) = f x y && all_two f k l

abbrev pub rising : ℕ → ℕ → List ℕ
rising i zero = []
rising i (suc n) = i ∷ rising (i + 1) n
