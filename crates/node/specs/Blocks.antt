-- Blocks: a flat array cut into blocks of one width, each with a count of the elements that it holds. Mailboxes are such blocks, and so are
-- the rows of signals in flight; everything here is for elements of any type.
--   Block            the places of a block, and how many of them, from the first on, hold an element
--   held d b         those elements; d stands for those that the count says and the block has no place for
--   Shelf            a flat array, and the counts of its blocks
--   block_of w k s    block k of a shelf whose blocks are w wide
--   changed w f k s  the shelf with f made of its block k
--   joined x b       x joins, behind the others
--   left i b         element i leaves, the rest keep their order: those behind it move up
--   popped d b       the first element leaves, all places move up, and d stands in the last
--   emptied b        all elements leave
use Rattle.std.specs.Prelude.{List, [], ◌∷◌, ℕ, zero, suc, ◌+◌, ◌-◌, ◌*◌, min, get_or, set, take, drop}
use Rattle.std.proofs.lemmas.List.Edits.{sets}
use Rattle.node.specs.Lists.{firsts, leave}

pub record Block (A : Type 0) : Type 0 where
  pub cells : List A
  pub count : ℕ

pub record Shelf (A : Type 0) : Type 0 where
  pub cells : List A
  pub counts : List ℕ

module _ {A : Type 0} where
  abbrev pub held : A → Block A → List A
  held d b = firsts d b.count b.cells

  abbrev pub block_of : ℕ → ℕ → Shelf A → Block A
  block_of w k s = record { cells = take w (drop (w * k) s.cells); count = get_or s.counts k 0 }

  unfoldable pub changed : ℕ → (Block A → Block A) → ℕ → Shelf A → Shelf A
  changed w f k s = let b = f (block_of w k s) in record { cells = sets s.cells (w * k) b.cells; counts = set s.counts k b.count }

  -- the byte that counts does not wrap in any block
  unfoldable pub joined : A → Block A → Block A
  joined x b = record { cells = set b.cells b.count x; count = min (b.count + 1) 255 }

  -- element i leaves the first n of l; the last of them stays behind as it was, and is no longer counted
  abbrev pub up : ℕ → ℕ → List A → List A
  up i n [] = []
  up i zero (x ∷ l) = x ∷ l
  up (suc i) (suc n) (x ∷ l) = x ∷ up i n l
  up zero (suc zero) (x ∷ l) = x ∷ l
  up zero (suc (suc n)) (x ∷ []) = x ∷ []
  up zero (suc (suc n)) (x ∷ y ∷ l) = y ∷ up zero (suc n) (y ∷ l)

  unfoldable pub left : ℕ → Block A → Block A
  left i b = record { cells = up i b.count b.cells; count = b.count - 1 }

  unfoldable pub popped : A → Block A → Block A
  popped d b = record { cells = leave d 0 b.cells; count = b.count - 1 }

  unfoldable pub emptied : Block A → Block A
  emptied b = record { cells = b.cells; count = 0 }
