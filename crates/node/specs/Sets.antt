-- Sets of processes (document 01's link set), each held as one number.
--   bits n b        the first n binary digits of b, the lowest first
--   bits_of s        the set as sixteen answers: whether process k + 1 is in it stands at k
--   no_peers         the empty set
--   has s j         process j is in the set
--   with_peer s j    the set with process j;  without_peer s j  the set without it
--   lowest_peer s    the lowest number in the set, 0 where it is empty
--   peer_told n      a number as the code tells it: none for 0, and else the process of that number
-- Number 0 is read as 1, and a number above 16 is never in a set and never joins one; neither occurs in a sound node.
use Rattle.std.specs.Prelude.{Bool, false, cond, List, [], ◌∷◌, Option, None, Some, ℕ, zero, suc, ◌+◌, ◌-◌, ◌/◌, ◌%◌, ◌^◌, eqb, ltb, get_or}
use Rattle.node.specs.declared.Peers.{Peers}
use Rattle.node.specs.declared.ProcessNumber.{ProcessNumber}

abbrev pub bits : ℕ → ℕ → List Bool
bits zero b = []
bits (suc n) b = eqb (b % 2) 1 ∷ bits n (b / 2)

unfoldable pub bits_of : Peers → List Bool
bits_of s = bits 16 s.0

abbrev pub no_peers : Peers
no_peers = record { 0 = 0 }

unfoldable pub has : Peers → ℕ → Bool
has s j = get_or (bits_of s) (j - 1) false

unfoldable pub with_peer : Peers → ℕ → Peers
with_peer s j = record { 0 = cond (ltb (j - 1) 16) (cond (get_or (bits_of s) (j - 1) false) s.0 (s.0 + 2 ^ (j - 1))) s.0 }

unfoldable pub without_peer : Peers → ℕ → Peers
without_peer s j = record { 0 = cond (get_or (bits_of s) (j - 1) false) (s.0 - 2 ^ (j - 1)) s.0 }

-- the number of the first that is there, where the first of all has number k; 0 where none is
abbrev pub first_from : ℕ → List Bool → ℕ
first_from k [] = 0
first_from k (b ∷ l) = cond b k (first_from (k + 1) l)

unfoldable pub lowest_peer : Peers → ℕ
lowest_peer s = first_from 1 (bits_of s)

-- the answer of `lowest`, by its number
abbrev pub peer_told : ℕ → Option ProcessNumber
peer_told zero = None
peer_told (suc n) = Some (record { 0 = suc n })
