-- Blocks of elements that a loop walks, testing each element of a block. Nothing here knows what the elements are: mailboxes and rows in flight are both walked by these laws. Assumes nothing.
--   Blocks C A            blocks of cells C, which hold elements A
--   elements b k          what block k holds
--   block_sound b k       block k passes: a test of its own, no more elements than it has room for, and the test of each
--   Due b rest g k        what the loop keeps: the tests of the blocks from k on, and then `rest`, give g
--   lent b k              what block k holds, as code lends it
--   Within b rest g k m   inside a block: the tests of the elements of block k from m on, of the blocks behind it, and then `rest`, give g
--   element               the m-th element of a block, where it stands in the cells;  begins, more  none of its elements was looked at, one more
--   skips                 blocks without elements, passed over;  due_then within_then  what is left of what was left
use mathlib.Core.Bool.{Bool, true, false, ◌&&◌, and_assoc, and-false}
use mathlib.Core.List.{List, [], ◌∷◌, map}
use mathlib.Core.Path.{◌≡◌, refl, sym, ◌∙◌, ap}
use Prim.Native.Nat.{ℕ, ◌+◌, ◌-◌, ◌*◌, zero, suc, ◌≤◌, ◌<◌}
use native.Mathlib.Nat.{add-zero}
use native.Mathlib.Numerals.{add-one}
use native.Mathlib.Omega.{arith}
use borrow.Author.Tests.{le-leb, lt-leb, ltb-true, ltb-false}
use lib.Dec.{leb, ltb}
use lib.ListN.{length, get_or, take, drop, length-take, length-drop}
use lib.Seq.{drop-cons, get_or-drop, get_or-take}
use Rattle.std.specs.List.{AllPass}
use Rattle.std.specs.Prelude.{◌↔◌, IsTrue}
use Rattle.std.proofs.lemmas.Bool.Decides.{Decides-by_and, same_from_decides}
use Rattle.std.proofs.lemmas.List.{take-take}
use Rattle.node.specs.Lists.{all_of, firsts, rising}
use Rattle.node.proofs.Lists.{firsts_take, held_at, held_length}

pub record Blocks (C A : Type 0) : Type 0 where
  pub number : ℕ
  pub width : ℕ
  pub cells : List C
  pub count : ℕ → ℕ
  pub own : ℕ → Bool
  pub test : ℕ → A → Bool
  pub read : C → A
  pub blank : C

-- the numbers from k to n
rising_more : (k n : ℕ) → k < n → rising k (n - k) ≡ k ∷ rising (k + 1) (n - (k + 1))
rising_more k n h = let e : n - k ≡ suc (n - (k + 1)) = omega arith in ap (rising k) e

rising_none : (k n : ℕ) → n ≤ k → rising k (n - k) ≡ []
rising_none k n h = let e : n - k ≡ 0 = omega arith in ap (rising k) e

module _ {C A : Type 0} (b : Blocks C A) where
  abbrev pub elements : ℕ → List A
  elements k = map b.read (firsts b.blank (b.count k) (take b.width (drop (b.width * k) b.cells)))

  unfoldable pub block_sound : ℕ → Bool
  block_sound k = b.own k && (leb (length (elements k)) b.width && all_of (b.test k) (elements k))

  -- the blocks from k on
  abbrev pub behind : ℕ → Bool
  behind k = all_of block_sound (rising k (b.number - k))

  pub record Due (rest g : Bool) (k : ℕ) : Type 0 where
    pub gives : g ≡ (behind k && rest)

  pub record Within (rest g : Bool) (k m : ℕ) : Type 0 where
    pub gives : g ≡ (all_of (b.test k) (drop m (elements k)) && (behind (k + 1) && rest))

  size : (k : ℕ) → length (elements k) ≡ b.count k
  size k = held_length b.read b.blank (b.count k) (take b.width (drop (b.width * k) b.cells))

  element : (k m : ℕ) → m < b.count k → b.count k ≤ b.width → get_or (elements k) m (b.read b.blank) ≡ b.read (get_or b.cells (b.width * k + m) b.blank)
  element k m h g =
      held_at b.read b.blank (b.count k) (take b.width (drop (b.width * k) b.cells)) m h
      ∙ ap b.read (get_or-take b.width (drop (b.width * k) b.cells) m b.blank (omega arith) ∙ get_or-drop (b.width * k) b.cells m b.blank)

  -- what block k holds, as it is lent by m, the count of its elements
  abbrev pub lent : ℕ → ℕ → List C
  lent k m = take (b.width * k + m - b.width * k) (drop (b.width * k) b.cells)

  module _ (k m : ℕ) (counted : m ≡ b.count k) where
    held : m ≤ b.width → b.width * k + b.width ≤ length b.cells → elements k ≡ map b.read (lent k m)
    held h f =
        let cells = drop (b.width * k) b.cells in
        let less : b.count k ≤ b.width = omega arith in
        let same : b.count k ≡ b.width * k + m - b.width * k = omega arith in
        ap (map b.read) (
        firsts_take b.blank (b.count k) (take b.width cells) (omega (arith, length-take b.width cells, length-drop (b.width * k) b.cells))
        ∙ take-take (b.count k) b.width cells less
        ∙ ap (λ (n : ℕ). take n cells) same
        )

    -- the test of each of them, as code tells it
    passes : {r : Bool} → IsTrue r ↔ AllPass (λ (x : C). b.test k (b.read x)) (lent k m) → r ≡ all_of (b.test k) (map b.read (lent k m))
    passes {r} h =
        same_from_decides r (all_of (b.test k) (map b.read (lent k m))) h
        (Decides-by_and (λ (x : C). b.test k (b.read x)) (λ (x : C). b.test k (b.read x) ≡ true) (λ (l : List C). all_of (b.test k) (map b.read l)) (λ x. (λ e. e, λ e. e)) refl (λ _ _. refl) (lent k m))

  module _ {rest g : Bool} where
    pub ends : (k : ℕ) → b.number ≤ k → Due rest g k → g ≡ rest
    ends k h v = v.gives ∙ rw (rising_none k b.number h)

    -- block k
    module _ (k : ℕ) (h : k < b.number) (v : Due rest g k) where
      block_stop : block_sound k ≡ false → false ≡ g
      block_stop e = sym (v.gives ∙ rw (rising_more k b.number h, e))

      pub own_stop : b.own k ≡ false → false ≡ g
      unfolding block_sound
      own_stop e = block_stop (rw e)

      pub long_stop : b.width < b.count k → false ≡ g
      unfolding block_sound
      long_stop e = block_stop (rw (size k, lt-leb (b.count k) b.width e, and-false))

      pub begins : b.own k ≡ true → b.count k ≤ b.width → Within rest g k 0
      unfolding block_sound
      begins e f = record { gives = v.gives ∙ rw (rising_more k b.number h, e, size k, le-leb (b.count k) b.width f) (and_assoc (all_of (b.test k) (elements k)) (behind (k + 1)) rest) }

      block_more : block_sound k ≡ true → Due rest g (k + 1)
      block_more e = record { gives = v.gives ∙ rw (rising_more k b.number h, e) }

      next_empty : b.own k ≡ true → b.count k ≡ 0 → Due rest g (k + 1)
      unfolding block_sound
      next_empty e f = block_more (rw (e, f, le-leb 0 b.width (omega arith)))

      -- the test of each element of block k
      module _ {m : ℕ} (counted : m ≡ b.count k) (f : m ≤ b.width) (room : b.width * k + b.width ≤ length b.cells) {r : Bool} (told : IsTrue r ↔ AllPass (λ (x : C). b.test k (b.read x)) (lent k m)) where
        pub stop : r ≡ false → false ≡ g
        unfolding block_sound
        stop e = block_stop (rw (held k m counted f room, sym (passes k m counted told) ∙ e, and-false, and-false))

        pub next : b.own k ≡ true → r ≡ true → Due rest g (k + 1)
        unfolding block_sound
        next o e = let less : b.count k ≤ b.width = omega arith in block_more (rw (o, size k, le-leb (b.count k) b.width less, held k m counted f room, sym (passes k m counted told) ∙ e))

    -- element m of block k
    module _ (k m : ℕ) (f : b.count k ≤ b.width) (v : Within rest g k m) (h : m < b.count k) where
      inside : m < length (elements k)
      inside = rw (size k) h

      pub more : b.test k (b.read (get_or b.cells (b.width * k + m) b.blank)) ≡ true → Within rest g k (m + 1)
      more e = record { gives = v.gives ∙ rw (drop-cons (elements k) m (b.read b.blank) inside, element k m h f, e, add-one m) }

    -- what is left behind block k, on the way from where g was left
    pub due_then : {k r : ℕ} → Due rest g k → Due rest (behind k && rest) r → Due rest g r
    due_then v w = record { gives = v.gives ∙ w.gives }

    pub within_then : {k m : ℕ} → Due rest g k → Within rest (behind k && rest) k m → Within rest g k m
    within_then v w = record { gives = v.gives ∙ w.gives }

    -- a block without elements, and several of them
    skip : (k : ℕ) → b.own k ≡ true → b.count k ≡ 0 → Due rest g k → Due rest g (k + 1)
    skip k e f v = by_size (ltb k b.number) refl (λ h. next_empty k h v e f)
      where
        by_size : (t : Bool) → ltb k b.number ≡ t → (k < b.number → Due rest g (k + 1)) → Due rest g (k + 1)
        by_size true is go = go (ltb-true k b.number is)
        by_size false is go =
            let h = ltb-false k b.number is in
            record { gives = v.gives ∙ rw (rising_none k b.number h, rising_none (k + 1) b.number (omega arith)) }

    pub skips : (k r : ℕ) → k ≤ r → ((j : ℕ) → b.own j ≡ true) → ((j : ℕ) → k ≤ j → j < r → b.count j ≡ 0) → Due rest g k → Due rest g r
    skips k r h e f v = let is : k + (r - k) ≡ r = omega arith in rw is at (go (r - k) k (λ j l m. f j l (omega arith)) v)
      where
        go : (n k : ℕ) → ((j : ℕ) → k ≤ j → j < k + n → b.count j ≡ 0) → Due rest g k → Due rest g (k + n)
        go zero k f v = rw (add-zero k) v
        go (suc n) k f v = let is : k + 1 + n ≡ k + suc n = omega arith in rw is at (go n (k + 1) (λ j l m. f j (omega arith) (omega arith)) (skip k (e k) (f k (omega arith) (omega arith)) v))
