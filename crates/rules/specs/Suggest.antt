-- Suggesting (document 01, "Suggest"; M-105, "The first step on offer").
--   possible           the 288 possible steps: by owner, its run, its timeout, then its arrivals by sender
--   at_turn k           the one that stands at k, from 0 on
--   acceptable n a     step a would be accepted
--   first_accepted n l  the first of the steps l that would be accepted, or none
--   suggest n          31, or the first of the possible steps that would be accepted, or none
--   Suggests n s       what document 01 alone asks of an answer s, any step: 31, a step that would be accepted, or none where no step would be
use Rattle.std.specs.Prelude.{Bool, true, false, cond, not, ◌≡◌, ℕ, get_or}
use Rattle.std.proofs.Math.Bool.{So}
use mathlib.Core.List.{List, [], ◌∷◌, map, flat_map}
use Rattle.std.proofs.Math.Option.{Option, none, some}
use Rattle.node.specs.declared.Node.{Node}
use Rattle.node.specs.Lists.{all_of}
use Rattle.rules.specs.Answers.{Answer, refused, done, need, not_sound}
use Rattle.rules.specs.Nodes.{Sound, sound}
use Rattle.rules.specs.Steps.{Action, run, arrive, timeout, step}
use Rattle.node.specs.Values.{numbers}

-- "for one owner run, then timeout, then arrivals by rising sender"
abbrev pub owned_by : ℕ → List Action
owned_by i = run i ∷ timeout i ∷ map (arrive i) numbers

-- "lowest owner"
unfoldable pub possible : List Action
unfolding flat_map
possible = flat_map owned_by numbers

abbrev pub at_turn : ℕ → Action
at_turn k = get_or possible k (run 0)

abbrev pub is_done : {A : Type 0} → Answer A → Bool
is_done (refused k) = false
is_done (done a) = true

unfoldable pub acceptable : Node → Action → Bool
acceptable n a = is_done (step n a)

abbrev pub first_accepted : Node → List Action → Option Action
first_accepted n [] = none
first_accepted n (a ∷ l) = cond (acceptable n a) (some a) (first_accepted n l)

unfoldable pub suggest : Node → Answer (Option Action)
suggest n = need (sound n) not_sound (done (first_accepted n possible))

abbrev pub Suggests : Node → Answer (Option Action) → Type 0
Suggests n (refused k) = (k ≡ not_sound) × (sound n ≡ false)
Suggests n (done (some a)) = So (acceptable n a)
Suggests n (done none) = Sound n × So (all_of (λ a. not (acceptable n a)) possible)
