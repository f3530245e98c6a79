-- What the calls of this crate answer, and what they leave in the lent buffer (document 01, "The three hands").
--   PlayedListed             what a play with its listing tells: the count, the refusal, 0 if none, the listing's length and the node
--   played_listed n l old    what `play_and_list` tells on node n, steps l and buffer old
--   played_listed_of n r     what an answer of the code on node n stands for
--   nothing_played n l old   whether 31 or 30 is told before anything is played
--   played_shown n l old     the buffer behind it
use Rattle.std.specs.Prelude.{Bool, ◌||◌, not, cond, Result, Ok, Err, List, ℕ, ltb, length}
use Rattle.listing.specs.Answers.{output_short, shown}
use Rattle.listing.specs.Listing.{listing_of}
use Rattle.node.specs.declared.Node.{Node}
use Rattle.node.specs.declared.Refusal.{Refusal}
use Rattle.node.specs.Refusals.{refusal_number, refusal_told}
use Rattle.rules.specs.Answers.{not_sound}
use Rattle.rules.specs.Nodes.{sound}
use Rattle.rules.specs.Steps.{Action, Outcome, play}
use Rattle.controller.specs.declared.PlayedListed.{PlayedListed as Answered}

pub record PlayedListed : Type 0 where
  pub accepted : ℕ
  pub refusal : ℕ
  pub length : ℕ
  pub node : Node

-- nothing is played: the node is as it was, the length told is 0
abbrev pub unplayed : Node → ℕ → PlayedListed
unplayed n k = record { accepted = 0; refusal = k; length = 0; node = n }

abbrev pub listed : Outcome → PlayedListed
listed r = record { accepted = r.accepted; refusal = r.refusal; length = length (listing_of r.node); node = r.node }

-- 31, then 30 against the listing of the node that the play gives, then what the play gives
unfoldable pub played_listed : Node → List Action → List ℕ → PlayedListed
played_listed n l old =
    cond (sound n)
    (cond (ltb (length old) (length (listing_of (play n l).node))) (unplayed n output_short) (listed (play n l)))
    (unplayed n not_sound)

abbrev pub played_listed_of : Node → Result Answered Refusal → PlayedListed
played_listed_of n (Ok r) = record { accepted = r.accepted; refusal = refusal_told r.refusal; length = r.length; node = r.node }
played_listed_of n (Err k) = unplayed n (refusal_number k)

-- the refusal that a play ends with comes beside the listing, and is none of these
unfoldable pub nothing_played : Node → List Action → List ℕ → Bool
nothing_played n l old = not (sound n) || ltb (length old) (length (listing_of (play n l).node))

unfoldable pub played_shown : Node → List Action → List ℕ → List ℕ
played_shown n l old = cond (sound n) (shown old (listing_of (play n l).node)) old
