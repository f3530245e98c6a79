-- `search_by` answers document 01's first fit and, where it counts, counts what it consults: at a message, and at a clause, what is left gives the
-- answer, and with what is counted the count. Assumes nothing.
use mathlib.Core.Bool.{Bool, true, not}
use mathlib.Core.List.{List, map}
use mathlib.Core.Path.{◌≡◌}
use Prim.Native.Nat.{ℕ, ◌+◌}
use lib.Dec.{eqb}
use lib.ListN.{drop}
use Rattle.node.specs.declared.Message.{Message}
use Rattle.node.specs.declared.Op.{Op}
use Rattle.node.specs.declared.Slot.{Slot}
use Rattle.rules.specs.Consult.{tried, consulted as consulted_by}
use Rattle.rules.specs.Receive.{first_clause, search as search_for, unfit}
use Rattle.receive.specs.Found.{found_of}
use Rattle.receive.proofs.Laws.{so_far}
use Rattle.receive.proofs.search_by.Given as goal

-- ---- what is left, where n clauses are counted, if they are
module _ (counts : Bool) (cs : List Op) (ms : List Message) where
  -- the messages from the i-th on
  abbrev pub AtMessage : ℕ → ℕ → Type 0
  AtMessage i n = (search_for cs 0 ms ≡ search_for cs i (drop i ms)) × (counts ≡ true → consulted_by cs ms ≡ n + consulted_by cs (drop i ms))

  -- of message m, the i-th, the clauses from the k-th on
  abbrev pub AtClause : ℕ → ℕ → Message → ℕ → Type 0
  AtClause i k m n =
      (search_for cs 0 ms ≡ first_clause (drop k cs) i m (search_for cs (i + 1) (drop (i + 1) ms)))
      × (counts ≡ true → consulted_by cs ms ≡ n + tried (drop k cs) m (consulted_by cs (drop (i + 1) ms)))

-- ---- the loops
abbrev pub invariant-loop-k : goal.invariant-loop-k
invariant-loop-k g l =
    (found_of l.found ≡ unfit) × AtClause (not (eqb g.row.COUNTS 0)) l.clauses (map (λ (s : Slot). s.message) l.mail) l.index l.k l.message (l.consulted + l.k)

abbrev pub invariant-messages : goal.invariant-messages
invariant-messages g l =
    (found_of l.found ≡ so_far l.index) × AtMessage (not (eqb g.row.COUNTS 0)) l.clauses (map (λ (s : Slot). s.message) l.mail) l.index l.consulted
