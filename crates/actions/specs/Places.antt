-- Where the parts of a node stand in its arrays. A number that is none wraps, so that every index is within its array; the rules never read
-- there.
--   process_at i         process i, and its mailbox
--   row_at j i           the row of signals from j to i
--   behaviour_at b       the length of behaviour b
--   op_at b place        the op at a place of behaviour b
--   decoded_of k         what the number k of a step says: whether a process number in it is none, its action, and where its parts stand;
--                       0 where a process number is none, and for the row of a run or a timeout
use Rattle.std.specs.Prelude.{cond, not, ◌&&◌, ℕ, ◌+◌, ◌-◌, ◌*◌, ◌/◌, ◌%◌, eqb}
use Rattle.rules.specs.Steps.{numbered}
use Rattle.actions.specs.declared.Decoded.{Decoded}
use Rattle.actions.specs.Numbers.{action_of}

abbrev pub process_at : ℕ → ℕ
process_at i = (i - 1) % 16

abbrev pub row_at : ℕ → ℕ → ℕ
row_at j i = 16 * process_at j + process_at i

abbrev pub behaviour_at : ℕ → ℕ
behaviour_at b = (b - 1) % 8

abbrev pub op_at : ℕ → ℕ → ℕ
op_at b place = 32 * behaviour_at b + place % 32

unfoldable pub decoded_of : ℕ → Decoded
decoded_of k = record {
  bad = not (numbered (action_of k));
  arrives = eqb (k / 65536) 1;
  expires = eqb (k / 65536) 2;
  owner = record { 0 = k / 256 % 256 };
  from = record { 0 = k % 256 };
  at = cond (numbered (action_of k)) (process_at (k / 256 % 256)) 0;
  row = cond (numbered (action_of k) && eqb (k / 65536) 1) (row_at (k % 256) (k / 256 % 256)) 0;
}
