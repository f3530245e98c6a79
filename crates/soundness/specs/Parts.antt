-- What the code reads of a process, in the words of `sound` (crate `rules`): so a function that is handed a part of a node says what it answers.
--   length_in lens p place_in p    how long the behaviour of process p is, and where the op at its place stands; what is no behaviour or no place wraps
--   running_told standing_told     `running_sound` and `standing_sound`, but for the mailbox, by what they look up: how many behaviours there are, how long
--                                  the process's own is, and the number of the op at its place
--   Quiet Busy                     pairs with no signal in flight, and the first with one
use Rattle.std.specs.Prelude.{Bool, true, ◌&&◌, not, cond, List, [], ◌∷◌, ◌≡◌, ℕ, ◌+◌, ◌-◌, ◌*◌, ◌%◌, ◌≤◌, ◌<◌, eqb, leb, ltb, get_or}
use Rattle.node.specs.declared.Process.{Process}
use Rattle.node.specs.declared.Stage.{Stage}
use Rattle.node.specs.declared.Stage.TheVariants.{Unborn, Live, Closing, Gone}
use Rattle.node.specs.Lists.{all_of}
use Rattle.node.specs.Ops.{is_part}
use Rattle.node.specs.Processes.{links_to, watches_over, watched_by}
use Rattle.node.specs.Values.{value_sound}

abbrev pub length_in : List ℕ → Process → ℕ
length_in lens p = get_or lens ((p.behaviour.0 - 1) % 8) 0

abbrev pub place_in : Process → ℕ
place_in p = (32 * (p.behaviour.0 - 1) + p.place) % 256

-- a place is before the end of its behaviour, on an op that is no part of a recv, or it is the end
unfoldable pub running_told : ℕ → ℕ → ℕ → Process → Bool
running_told c n there p =
    leb 1 p.behaviour.0 && leb p.behaviour.0 c
    && all_of value_sound (p.r0 ∷ p.r1 ∷ p.r2 ∷ p.r3 ∷ [])
    && cond (ltb p.place n) (not (is_part there)) (eqb p.place n)

abbrev pub standing_told : Stage → ℕ → ℕ → ℕ → ℕ → Process → Bool
standing_told Unborn c n there i p = true
standing_told Live c n there i p = running_told c n there p && not (links_to p i) && not (watches_over p i) && not (watched_by p i)
standing_told Closing c n there i p = value_sound p.reason && not (links_to p i) && not (watched_by p i)
standing_told Gone c n there i p = true

-- no signal is in flight in the pairs from a to b, by their counts
pub record Quiet (counts : List ℕ) (a b : ℕ) : Type 0 where
  pub none : (j : ℕ) → a ≤ j → j < b → get_or counts j 0 ≡ 0

-- r is the first pair from `from` on with a signal in flight; past the 256 pairs there is none
pub record Busy (counts : List ℕ) (from r : ℕ) : Type 0 where
  pub behind : from ≤ r
  pub before : Quiet counts from r
  pub some : r < 256 → get_or counts r 0 ≡ 0 → ⊥
