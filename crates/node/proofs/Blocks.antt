-- Laws of blocks, over the width and the type of the elements. Assumes nothing.
--   block_of_here block_of_else   a block that was changed, and every other block
--   changed_comm changed_same   two changes can change places: in two blocks; in one, where they can there
--   held_joined held_left held_popped   what a block holds behind a change
use mathlib.Core.Bool.{Bool, true, false}
use mathlib.Core.List.{List, [], ◌∷◌, ◌++◌, append_assoc}
use mathlib.Core.Logic.{◌≢◌}
use mathlib.Core.Path.{◌≡◌, refl, sym, ◌∙◌, ap}
use Prim.Native.Nat.{ℕ, zero, suc, ◌+◌, ◌*◌, ◌-◌, ◌≤◌, ◌<◌, min}
use native.Mathlib.Nat.{le_of_suc-le-suc, not-suc-le-zero, mul-suc, mul-le-mul_left}
use native.Mathlib.Numerals.{sub-one}
use native.Mathlib.Omega.{arith}
use borrow.Author.Tests.{ltb-true, ltb-false}
use lib.Dec.{ltb}
use lib.ListN.{length, get_or, take, drop, set, length-take, length-drop, length-set}
use lib.Seq.{sets, length-sets, sets-eq, set_comm, set-set, get_or-set_same, get_or-set_other, drop-set-lt, take-set-le, drop-set-add, take_at, drop_at, length-take-le, set-append_left}
use Rattle.node.specs.Blocks.{Block, Shelf, held, block_of, changed, joined, up, left, popped, emptied}
use Rattle.node.specs.Lists.{firsts, leave, without}
use Rattle.node.proofs.Lists.{firsts_join, firsts_take, firsts_behind, leave_length}

-- the n places from i on are none of the m places from j on
abbrev Off : ℕ → ℕ → ℕ → ℕ → Type 0
Off i n j m = (a b : ℕ) → a < n → b < m → i + a ≢ j + b

-- two blocks stand apart
blocks_apart : (w k j a b : ℕ) → k ≢ j → a < w → b < w → w * k + a ≢ w * j + b
blocks_apart w k j a b h f g e = go (ltb k j) refl
  where
    below : (x y c d : ℕ) → x < y → c < w → w * x + c ≡ w * y + d → ⊥
    below x y c d q r s = omega (arith, mul-le-mul_left w q, mul-suc w x)

    go : (t : Bool) → ltb k j ≡ t → ⊥
    go true q = below k j a b (ltb-true k j q) f e
    go false q = below j k b a (omega (arith, ltb-false k j q, h)) g (sym e)

module _ {A : Type 0} where
  -- ---- a run of stores

  -- a store outside of the run
  pub set_sets : (vs l : List A) (i m : ℕ) (x : A) → ((a : ℕ) → a < length vs → i + a ≢ m) → set (sets l i vs) m x ≡ sets (set l m x) i vs
  set_sets [] l i m x h = refl
  set_sets (v ∷ vs) l i m x h =
      set_sets vs (set l i v) (suc i) m x (λ a g e. h (suc a) (omega arith) (omega arith))
      ∙ ap (λ (z : List A). sets z (suc i) vs) (set_comm l i m v x (λ e. h 0 (omega arith) (omega arith)))

  sets_comm : (vs us l : List A) (i j : ℕ) → Off i (length vs) j (length us) → sets (sets l i vs) j us ≡ sets (sets l j us) i vs
  sets_comm [] us l i j h = refl
  sets_comm (v ∷ vs) us l i j h =
      sets_comm vs us (set l i v) (suc i) j (λ a b g k e. h (suc a) b (omega arith) k (omega arith))
      ∙ ap (λ (z : List A). sets z (suc i) vs) (sym (set_sets us l j i v (λ b k e. h 0 b (omega arith) k (omega arith))))

  -- a run of stores over another
  sets_sets : (us vs l : List A) (i : ℕ) → length us ≡ length vs → sets (sets l i us) i vs ≡ sets l i vs
  sets_sets [] [] l i e = refl
  sets_sets [] (v ∷ vs) l i e = absurd (omega arith)
  sets_sets (u ∷ us) [] l i e = absurd (omega arith)
  sets_sets (u ∷ us) (v ∷ vs) l i e =
      ap (λ (z : List A). sets z (suc i) vs) (set_sets us (set l i u) (suc i) i v (λ a g q. absurd (omega arith)) ∙ ap (λ (z : List A). sets z (suc i) us) (set-set l i u v))
      ∙ sets_sets us vs (set l i v) (suc i) (omega arith)

  -- the w elements from n on, behind a store elsewhere
  part_set : (l : List A) (n w m : ℕ) (x : A) → ((b : ℕ) → b < w → m ≢ n + b) → take w (drop n (set l m x)) ≡ take w (drop n l)
  part_set l n w m x h = go (ltb m n) refl
    where
      beyond : n ≤ m → w ≤ m - n
      beyond g = far (ltb (m - n) w) refl
        where
          far : (t : Bool) → ltb (m - n) w ≡ t → w ≤ m - n
          far true e = absurd (h (m - n) (ltb-true (m - n) w e) (omega arith))
          far false e = ltb-false (m - n) w e

      go : (t : Bool) → ltb m n ≡ t → take w (drop n (set l m x)) ≡ take w (drop n l)
      go true e = ap (take w) (drop-set-lt n l m x (ltb-true m n e))
      go false e =
          let g = ltb-false m n e in
          let q : n + (m - n) ≡ m = omega arith in
          ap (λ (k : ℕ). take w (drop n (set l k x))) (sym q) ∙ ap (take w) (drop-set-add n l (m - n) x) ∙ take-set-le w (drop n l) (m - n) x (beyond g)

  part_sets : (vs l : List A) (i n w : ℕ) → Off i (length vs) n w → take w (drop n (sets l i vs)) ≡ take w (drop n l)
  part_sets [] l i n w h = refl
  part_sets (v ∷ vs) l i n w h =
      part_sets vs (set l i v) (suc i) n w (λ a b g k e. h (suc a) b (omega arith) k (omega arith))
      ∙ part_set l n w i v (λ b k e. h 0 b (omega arith) k (omega arith))

  -- and the run itself
  part_here : (vs l : List A) (n : ℕ) → n + length vs ≤ length l → take (length vs) (drop n (sets l n vs)) ≡ vs
  part_here vs l n h =
      ap (λ (z : List A). take (length vs) (drop n z)) (sets-eq vs l n h ∙ append_assoc (take n l) vs (drop (n + length vs) l))
      ∙ ap (take (length vs)) (drop_at (take n l) (vs ++ drop (n + length vs) l) n (length-take-le n l (omega arith)))
      ∙ take_at vs (drop (n + length vs) l) (length vs) refl

  -- ---- blocks

  -- block k is whole within its shelf
  pub record Room (w k : ℕ) (s : Shelf A) : Type 0 where
    pub cells : w * k + w ≤ length s.cells
    pub counts : k < length s.counts

  -- a change that keeps the places of a block
  abbrev pub Keeping : (Block A → Block A) → Type 0
  Keeping f = (b : Block A) → length (f b).cells ≡ length b.cells

  module _ (w : ℕ) where
    width : (k : ℕ) (s : Shelf A) → length (block_of w k s).cells ≤ w
    width k s = rw (length-take w (drop (w * k) s.cells)) (omega arith)

    pub whole : (k : ℕ) (s : Shelf A) → Room w k s → length (block_of w k s).cells ≡ w
    whole k s r = rw (length-take w (drop (w * k) s.cells), length-drop (w * k) s.cells) (omega (arith, r.cells))

    module _ (f : Block A → Block A) (keeps : Keeping f) (k : ℕ) (s : Shelf A) where
      size : length (f (block_of w k s)).cells ≤ w
      size = rw (keeps (block_of w k s)) (width k s)

      pub changed_cells : length (changed w f k s).cells ≡ length s.cells
      unfolding changed
      changed_cells = length-sets s.cells (w * k) (f (block_of w k s)).cells

      pub changed_counts : length (changed w f k s).counts ≡ length s.counts
      unfolding changed
      changed_counts = length-set s.counts k (f (block_of w k s)).count

      pub changed_room : (j : ℕ) → Room w j s → Room w j (changed w f k s)
      changed_room j r = record { cells = rw changed_cells r.cells; counts = rw changed_counts r.counts }

      pub block_of_else : (j : ℕ) → j ≢ k → block_of w j (changed w f k s) ≡ block_of w j s
      unfolding changed
      block_of_else j h = λ i. record {
        cells = part_sets (f (block_of w k s)).cells s.cells (w * k) (w * j) w (λ a b p q. blocks_apart w k j a b (λ e. h (sym e)) (omega (arith, size)) q) i;
        count = get_or-set_other s.counts k j (f (block_of w k s)).count 0 h i;
      }

      pub block_of_here : Room w k s → block_of w k (changed w f k s) ≡ f (block_of w k s)
      unfolding changed
      block_of_here r =
          let b = f (block_of w k s) in
          let e : length b.cells ≡ w = keeps (block_of w k s) ∙ whole k s r in
          λ i. record {
            cells = (ap (λ (n : ℕ). take n (drop (w * k) (sets s.cells (w * k) b.cells))) (sym e) ∙ part_here b.cells s.cells (w * k) (rw e r.cells)) i;
            count = get_or-set_same s.counts k b.count 0 r.counts i;
          }

    -- block k becomes b
    abbrev stored : ℕ → Block A → Shelf A → Shelf A
    stored k b s = record { cells = sets s.cells (w * k) b.cells; counts = set s.counts k b.count }

    stored_comm : (k j : ℕ) (b c : Block A) (s : Shelf A) → k ≢ j → length b.cells ≤ w → length c.cells ≤ w → stored k b (stored j c s) ≡ stored j c (stored k b s)
    stored_comm k j b c s h x y = λ i. record {
      cells = sets_comm c.cells b.cells s.cells (w * j) (w * k) (λ n m p q. blocks_apart w j k n m (λ e. h (sym e)) (omega arith) (omega arith)) i;
      counts = set_comm s.counts j k c.count b.count (λ e. h (sym e)) i;
    }

    stored_stored : (k : ℕ) (b c : Block A) (s : Shelf A) → length c.cells ≡ length b.cells → stored k b (stored k c s) ≡ stored k b s
    stored_stored k b c s h = λ i. record {
      cells = sets_sets c.cells b.cells s.cells (w * k) h i;
      counts = set-set s.counts k c.count b.count i;
    }

    module _ (f g : Block A → Block A) (keepsf : Keeping f) (keepsg : Keeping g) (s : Shelf A) where
      -- in two blocks
      pub changed_comm : (k j : ℕ) → k ≢ j → changed w f k (changed w g j s) ≡ changed w g j (changed w f k s)
      unfolding changed
      changed_comm k j h =
          let b = block_of w k s in
          let c = block_of w j s in
          ap (λ (x : Block A). stored k (f x) (stored j (g c) s)) (block_of_else g keepsg j s k h)
          ∙ stored_comm k j (f b) (g c) s h (size f keepsf k s) (size g keepsg j s)
          ∙ sym (ap (λ (x : Block A). stored j (g x) (stored k (f b) s)) (block_of_else f keepsf k s j (λ e. h (sym e))))

      -- in one block, where the changes of the block can change places
      pub changed_same : (k : ℕ) → Room w k s → f (g (block_of w k s)) ≡ g (f (block_of w k s)) → changed w f k (changed w g k s) ≡ changed w g k (changed w f k s)
      unfolding changed
      changed_same k r e =
          let b = block_of w k s in
          ap (λ (x : Block A). stored k (f x) (stored k (g b) s)) (block_of_here g keepsg k s r)
          ∙ stored_stored k (f (g b)) (g b) s (sym (keepsf (g b)))
          ∙ ap (λ (x : Block A). stored k x s) e
          ∙ sym (ap (λ (x : Block A). stored k (g x) (stored k (f b) s)) (block_of_here f keepsf k s r) ∙ stored_stored k (g (f b)) (f b) s (sym (keepsg (f b))))

  -- ---- the changes of a block

  pub up_length : (i n : ℕ) (l : List A) → length (up i n l) ≡ length l
  up_length i n [] = refl
  up_length i zero (x ∷ l) = refl
  up_length (suc i) (suc n) (x ∷ l) = ap suc (up_length i n l)
  up_length zero (suc zero) (x ∷ l) = refl
  up_length zero (suc (suc n)) (x ∷ []) = refl
  up_length zero (suc (suc n)) (x ∷ y ∷ l) = ap suc (up_length zero (suc n) (y ∷ l))

  pub joined_keeps : (x : A) → Keeping (joined x)
  unfolding joined
  joined_keeps x b = length-set b.cells b.count x

  pub left_keeps : (i : ℕ) → Keeping (left i)
  unfolding left
  left_keeps i b = up_length i b.count b.cells

  pub popped_keeps : (d : A) → Keeping (popped d)
  unfolding popped
  popped_keeps d b = leave_length d 0 b.cells

  pub emptied_keeps : Keeping emptied
  unfolding emptied
  emptied_keeps b = refl

  -- the first n + 1 lose element i
  up_firsts : (i n : ℕ) (l : List A) → i ≤ n → n < length l → take n (up i (suc n) l) ≡ without i (take (suc n) l)
  up_firsts i n [] h g = absurd (not-suc-le-zero g)
  up_firsts zero zero (x ∷ l) h g = refl
  up_firsts zero (suc n) (x ∷ []) h g = absurd (not-suc-le-zero (le_of_suc-le-suc g))
  up_firsts zero (suc n) (x ∷ y ∷ l) h g = ap (λ (r : List A). y ∷ r) (up_firsts zero n (y ∷ l) (omega arith) (le_of_suc-le-suc g))
  up_firsts (suc i) zero (x ∷ l) h g = absurd (not-suc-le-zero h)
  up_firsts (suc i) (suc n) (x ∷ l) h g = ap (λ (r : List A). x ∷ r) (up_firsts i n l (le_of_suc-le-suc h) (le_of_suc-le-suc g))

  module _ (d : A) (b : Block A) (fits : b.count ≤ length b.cells) where
    pub held_joined : (x : A) → b.count < length b.cells → b.count < 255 → held d (joined x b) ≡ held d b ++ (x ∷ [])
    unfolding joined
    held_joined x h g =
        let e : min (b.count + 1) 255 ≡ suc b.count = omega arith in
        ap (λ (n : ℕ). firsts d n (set b.cells b.count x)) e ∙ firsts_join d x b.count b.cells h

    pub held_left : (i : ℕ) → i < b.count → held d (left i b) ≡ without i (held d b)
    unfolding left
    held_left i h =
        let n = b.count - 1 in
        let e : b.count ≡ suc n = omega arith in
        firsts_take d n (up i b.count b.cells) (rw (up_length i b.count b.cells) (omega arith))
        ∙ ap (λ (m : ℕ). take n (up i m b.cells)) e
        ∙ up_firsts i n b.cells (omega arith) (omega arith)
        ∙ ap (λ (m : ℕ). without i (take m b.cells)) (sym e)
        ∙ ap (without i) (sym (firsts_take d b.count b.cells fits))

  -- the first of those that are held leaves
  pub held_popped : (d : A) (b : Block A) → 0 < b.count → 0 < length b.cells → held d b ≡ get_or b.cells 0 d ∷ held d (popped d b)
  unfolding popped
  held_popped d b h g = go b.cells b.count h g
    where
      go : (l : List A) (n : ℕ) → 0 < n → 0 < length l → firsts d n l ≡ get_or l 0 d ∷ firsts d (n - 1) (leave d 0 l)
      go l zero p q = absurd (omega arith)
      go [] (suc n) p q = absurd (omega arith)
      go (x ∷ l) (suc n) p q = rw (sub-one, firsts_behind d n l)

  -- one joins behind and the first leaves, in any order
  leave_set : (d x : A) (xs : List A) (k : ℕ) → 0 < k → k < length xs → leave d 0 (set xs k x) ≡ set (leave d 0 xs) (k - 1) x
  leave_set d x xs zero h l = absurd (not-suc-le-zero h)
  leave_set d x [] (suc k) h l = absurd (not-suc-le-zero l)
  leave_set d x (y ∷ xs) (suc k) h l = rw (sub-one, set-append_left xs (d ∷ []) k x (le_of_suc-le-suc l))

  pub popped_joined : (d x : A) (b : Block A) → 0 < b.count → b.count < length b.cells → b.count < 255 → popped d (joined x b) ≡ joined x (popped d b)
  unfolding popped joined
  popped_joined d x b g h q = λ i. record { cells = leave_set d x b.cells b.count g h i; count = same i }
    where
      same : min (b.count + 1) 255 - 1 ≡ min (b.count - 1 + 1) 255
      same = omega arith
