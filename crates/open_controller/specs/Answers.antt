-- What the program has in its buffer before it writes.
--   Whole text old r new   `new` is the buffer `old` with the whole of `text` in its first r bytes
use Rattle.std.specs.Prelude.{List, ◌++◌, ◌≡◌, ℕ, length, drop}

pub record Whole (text old : List ℕ) (r : ℕ) (new : List ℕ) : Type 0 where
  pub told : r ≡ length text
  pub shown : new ≡ text ++ drop r old
