-- The stores of code are the changes of blocks: single elements of a flat array. Assumes nothing.
--   store_joined store_popped store_left   one element joins a block; the first leaves; element i leaves, those behind it moved up
--   store_emptied                          a block that is emptied keeps its places
--   Moved, moved_more, moved_end           the loop that moves elements up: what is left to move gives the goal
use mathlib.Core.Bool.{Bool, true, false}
use mathlib.Core.List.{List, [], ◌∷◌, ◌++◌, append_assoc}
use mathlib.Core.Path.{◌≡◌, refl, sym, ◌∙◌, ap}
use Prim.Native.Nat.{ℕ, zero, suc, ◌+◌, ◌*◌, ◌-◌, ◌≤◌, ◌<◌, min}
use native.Mathlib.Nat.{le_of_suc-le-suc, not-suc-le-zero, zero-add, suc-add, add-suc, add-zero}
use native.Mathlib.Numerals.{add-one}
use native.Mathlib.Omega.{arith}
use borrow.Author.Tests.{ltb-true, ltb-false}
use lib.Dec.{ltb}
use lib.ListN.{length, get_or, take, drop, set, length-drop, length-set, drop_of_length-le, take-append-drop}
use lib.Seq.{sets, sets-eq, set_comm, set-set, set-get_or, drop-cons, drop-set-add, take-set-lt, length-take-le, drop-drop}
use Rattle.node.specs.Blocks.{Shelf, changed, joined, up, left, popped, emptied}
use Rattle.node.specs.Lists.{leave}
use Rattle.node.proofs.Blocks.{Room, whole, set_sets, up_length}

module _ {A : Type 0} where
  -- ---- a run of stores

  -- a part that is stored back
  sets_part : (d : A) (w : ℕ) (l : List A) (i : ℕ) → sets l i (take w (drop i l)) ≡ l
  sets_part d zero l i = refl
  sets_part d (suc w) l i = go (ltb i (length l)) refl (sets_part d w l (suc i))
    where
      go : (b : Bool) → ltb i (length l) ≡ b → sets l (suc i) (take w (drop (suc i) l)) ≡ l → sets l i (take (suc w) (drop i l)) ≡ l
      go true e more =
          ap (λ (z : List A). sets l i (take (suc w) z)) (drop-cons l i d (ltb-true i (length l) e))
          ∙ ap (λ (z : List A). sets z (suc i) (take w (drop (suc i) l))) (set-get_or l i d)
          ∙ more
      go false e more = ap (λ (z : List A). sets l i (take (suc w) z)) (drop_of_length-le l {i = i} (ltb-false i (length l) e))

  -- a store within the run is stored over
  set_within : (vs l : List A) (i c : ℕ) (x : A) → c < length vs → sets (set l (i + c) x) i vs ≡ sets l i vs
  set_within [] l i c x h = absurd (not-suc-le-zero h)
  set_within (v ∷ vs) l i zero x h = ap (λ (z : List A). sets z (suc i) vs) (ap (λ (n : ℕ). set (set l n x) i v) (add-zero i) ∙ set-set l i x v)
  set_within (v ∷ vs) l i (suc c) x h =
      ap (λ (z : List A). sets z (suc i) vs) (set_comm l (i + suc c) i x v (λ e. absurd (omega arith)) ∙ ap (λ (n : ℕ). set (set l i v) n x) (add-suc i c ∙ sym (suc-add i c)))
      ∙ set_within vs (set l i v) (suc i) c x (le_of_suc-le-suc h)

  -- one element of a part
  sets_one : (d : A) (w : ℕ) (l : List A) (i c : ℕ) (x : A) → c < w → i + w ≤ length l → sets l i (set (take w (drop i l)) c x) ≡ set l (i + c) x
  sets_one d w l i c x h g =
      let part : take w (drop i (set l (i + c) x)) ≡ set (take w (drop i l)) c x = ap (take w) (drop-set-add i l c x) ∙ take-set-lt w (drop i l) c x h in
      let size : length (set (take w (drop i l)) c x) ≡ w = length-set (take w (drop i l)) c x ∙ length-take-le w (drop i l) (simp length-drop (omega arith)) in
      sym (set_within (set (take w (drop i l)) c x) l i c x (omega (arith, size)))
      ∙ ap (sets (set l (i + c) x) i) (sym part)
      ∙ sets_part d w (set l (i + c) x) i

  -- ---- elements that move up

  up_behind : (a l : List A) (i n : ℕ) → up (length a + i) (length a + n) (a ++ l) ≡ a ++ up i n l
  up_behind [] l i n = rw (zero-add i, zero-add n)
  up_behind (y ∷ a) l i n = rw (suc-add (length a) i, suc-add (length a) n) (ap (λ (r : List A). y ∷ r) (up_behind a l i n))

  up_nothing : (i : ℕ) (l : List A) → up i 0 l ≡ l
  up_nothing i [] = refl
  up_nothing i (x ∷ l) = refl

  up_before : (l r : List A) (i n : ℕ) → n ≤ length l → up i n (l ++ r) ≡ up i n l ++ r
  up_before [] r i zero h = up_nothing i r
  up_before [] r i (suc n) h = absurd (not-suc-le-zero h)
  up_before (x ∷ l) r i zero h = refl
  up_before (x ∷ l) r (suc i) (suc n) h = ap (λ (q : List A). x ∷ q) (up_before l r i n (le_of_suc-le-suc h))
  up_before (x ∷ l) r zero (suc zero) h = refl
  up_before (x ∷ []) r zero (suc (suc n)) h = absurd (not-suc-le-zero (le_of_suc-le-suc h))
  up_before (x ∷ y ∷ l) r zero (suc (suc n)) h = ap (λ (q : List A). y ∷ q) (up_before (y ∷ l) r zero (suc n) (le_of_suc-le-suc h))

  -- within a part
  sets_up : (w : ℕ) (l : List A) (f i n : ℕ) → n ≤ w → f + w ≤ length l → sets l f (up i n (take w (drop f l))) ≡ up (f + i) (f + n) l
  sets_up w l f i n h g =
      let part = take w (drop f l) in
      let size : length part ≡ w = length-take-le w (drop f l) (simp length-drop (omega arith)) in
      let long : length (up i n part) ≡ w = up_length i n part ∙ size in
      let front : length (take f l) ≡ f = length-take-le f l (omega arith) in
      let rest = drop w (drop f l) in
      let whole : take f l ++ (part ++ rest) ≡ l = ap (λ (z : List A). take f l ++ z) (take-append-drop w (drop f l)) ∙ take-append-drop f l in
      sets-eq (up i n part) l f (omega (arith, long))
      ∙ append_assoc (take f l) (up i n part) (drop (f + length (up i n part)) l)
      ∙ ap (λ (k : ℕ). take f l ++ (up i n part ++ drop (f + k) l)) long
      ∙ ap (λ (z : List A). take f l ++ (up i n part ++ z)) (sym (drop-drop w f l))
      ∙ ap (λ (z : List A). take f l ++ z) (sym (up_before part rest i n (omega (arith, size))))
      ∙ sym (up_behind (take f l) (part ++ rest) i n)
      ∙ ap (λ (k : ℕ). up (k + i) (k + n) (take f l ++ (part ++ rest))) front
      ∙ ap (up (f + i) (f + n)) whole

  up_more : (i n : ℕ) (l : List A) (d : A) → i + 1 < n → n ≤ length l → up (i + 1) n (set l i (get_or l (i + 1) d)) ≡ up i n l
  up_more i n l d h g = ap (λ (k : ℕ). up k n (set l i (get_or l k d))) (add-one i) ∙ go i n l (omega arith) g
    where
      go : (i n : ℕ) (l : List A) → suc i < n → n ≤ length l → up (suc i) n (set l i (get_or l (suc i) d)) ≡ up i n l
      go i n [] h g = refl
      go i zero (x ∷ l) h g = absurd (not-suc-le-zero h)
      go zero (suc zero) (x ∷ l) h g = absurd (not-suc-le-zero (le_of_suc-le-suc h))
      go zero (suc (suc n)) (x ∷ []) h g = absurd (not-suc-le-zero (le_of_suc-le-suc g))
      go zero (suc (suc n)) (x ∷ y ∷ l) h g = refl
      go (suc i) (suc n) (x ∷ l) h g = ap (λ (r : List A). x ∷ r) (go i n l (le_of_suc-le-suc h) (le_of_suc-le-suc g))

  pub up_end : (i n : ℕ) (l : List A) → n ≤ i + 1 → up i n l ≡ l
  up_end i n [] h = refl
  up_end i zero (x ∷ l) h = refl
  up_end (suc i) (suc n) (x ∷ l) h = ap (λ (r : List A). x ∷ r) (up_end i n l (omega arith))
  up_end zero (suc zero) (x ∷ l) h = refl
  up_end zero (suc (suc n)) (x ∷ l) h = absurd (omega arith)

  -- the moving loop: from m on elements are still to be moved in r
  pub record Moved (l : List A) (a top : ℕ) (r : List A) (m : ℕ) : Type 0 where
    pub size : length r ≡ length l
    pub list : up m top r ≡ up a top l

  pub moved_start : (l : List A) (a top : ℕ) → Moved l a top l a
  moved_start l a top = record { size = refl; list = refl }

  pub moved_more : {l : List A} {a top : ℕ} {r : List A} {m : ℕ} (d : A) → Moved l a top r m → m + 1 < top → top ≤ length l → Moved l a top (set r m (get_or r (m + 1) d)) (m + 1)
  moved_more {l} {a} {top} {r} {m} d v i j = record {
    size = length-set r m (get_or r (m + 1) d) ∙ v.size;
    list = up_more m top r d i (omega (arith, v.size)) ∙ v.list;
  }

  pub moved_end : {l : List A} {a top : ℕ} {r : List A} {m : ℕ} → Moved l a top r m → top ≤ m + 1 → r ≡ up a top l
  moved_end {l} {a} {top} {r} {m} v h = sym (up_end m top r h) ∙ v.list

  -- ---- blocks

  module _ (d : A) (w k : ℕ) (s : Shelf A) (room : Room w k s) where
    abbrev c : ℕ
    c = get_or s.counts k 0

    pub store_joined : (x : A) → c < w → c < 255 → changed w (joined x) k s ≡ record { cells = set s.cells (w * k + c) x; counts = set s.counts k (c + 1) }
    unfolding changed joined
    store_joined x h g =
        let e : min (c + 1) 255 ≡ c + 1 = omega arith in
        λ i. record { cells = sets_one d w s.cells (w * k) c x h room.cells i; counts = set s.counts k (e i) }

    pub store_left : (j : ℕ) → c ≤ w → changed w (left j) k s ≡ record { cells = up (w * k + j) (w * k + c) s.cells; counts = set s.counts k (c - 1) }
    unfolding changed left
    store_left j h = λ i. record { cells = sets_up w s.cells (w * k) j c h room.cells i; counts = set s.counts k (c - 1) }

  pub store_emptied : (d : A) (w k : ℕ) (s : Shelf A) → changed w emptied k s ≡ record { cells = s.cells; counts = set s.counts k 0 }
  unfolding changed emptied
  store_emptied d w k s = λ i. record { cells = sets_part d w s.cells (w * k) i; counts = set s.counts k 0 }

  -- a store within a run of stores, behind the run
  sets_set : (q l : List A) (f c : ℕ) (d : A) → c < length q → sets l f (set q c d) ≡ set (sets l f q) (f + c) d
  sets_set [] l f c d h = absurd (not-suc-le-zero h)
  sets_set (v ∷ vs) l f zero d h =
      sym
      (ap (λ (n : ℕ). set (sets (set l f v) (suc f) vs) n d) (add-zero f)
      ∙ set_sets vs (set l f v) (suc f) f d (λ a g e. absurd (omega arith))
      ∙ ap (λ (z : List A). sets z (suc f) vs) (set-set l f v d))
  sets_set (v ∷ vs) l f (suc c) d h = sets_set vs (set l f v) (suc f) c d (le_of_suc-le-suc h) ∙ ap (λ (n : ℕ). set (sets (set l f v) (suc f) vs) n d) (suc-add f c ∙ sym (add-suc f c))

  -- the first of n + 1 leaves: those behind it move up, and d stands in the last place
  leave_up : (d : A) (n : ℕ) (l : List A) → length l ≡ suc n → leave d 0 l ≡ set (up 0 (suc n) l) n d
  leave_up d n [] h = absurd (omega arith)
  leave_up d zero (x ∷ []) h = refl
  leave_up d zero (x ∷ y ∷ l) h = absurd (omega arith)
  leave_up d (suc n) (x ∷ []) h = absurd (omega arith)
  leave_up d (suc n) (x ∷ y ∷ l) h = ap (λ (r : List A). y ∷ r) (leave_up d n (y ∷ l) (omega arith))

  pub store_popped : (d : A) (n k : ℕ) (s : Shelf A) → Room (suc n) k s → changed (suc n) (popped d) k s
      ≡ record { cells = set (up (suc n * k) (suc n * k + suc n) s.cells) (suc n * k + n) d; counts = set s.counts k (get_or s.counts k 0 - 1) }
  unfolding changed popped
  store_popped d n k s room =
      let a = suc n * k in
      let l = s.cells in
      let b = take (suc n) (drop a l) in
      let size : length b ≡ suc n = whole (suc n) k s room in
      let cells : sets l a (leave d 0 b) ≡ set (up a (a + suc n) l) (a + n) d =
      ap (sets l a) (leave_up d n b size)
      ∙ sets_set (up 0 (suc n) b) l a n d (rw (up_length 0 (suc n) b, size) (omega arith))
      ∙ ap (λ (z : List A). set z (a + n) d) (sets_up (suc n) l a 0 (suc n) (omega arith) room.cells ∙ ap (λ (i : ℕ). up i (a + suc n) l) (add-zero a)) in
      λ i. record { cells = cells i; counts = set s.counts k (get_or s.counts k 0 - 1) }
