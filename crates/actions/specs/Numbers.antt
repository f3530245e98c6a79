-- A step as one number, for the thin play: kind * 65536 + owner * 256 + from.
--   encode s         the number of a step record
--   decode k         the step record of a number; a kind above 255 is 255, which is no kind
--   action_of k       the action that a number stands for
--   possible_numbers  the numbers of the possible steps, in their order
use Rattle.std.specs.Prelude.{List, map, ℕ, ◌+◌, ◌*◌, ◌/◌, ◌%◌, min}
use Rattle.node.specs.declared.Step.{Step}
use Rattle.rules.specs.Steps.{Action, meaning, record_of}
use Rattle.rules.specs.Suggest.{possible}

unfoldable pub encode : Step → ℕ
encode s = s.kind * 65536 + s.owner.0 * 256 + s.from.0

unfoldable pub decode : ℕ → Step
decode k = record { kind = min (k / 65536) 255; owner = record { 0 = k / 256 % 256 }; from = record { 0 = k % 256 } }

unfoldable pub action_of : ℕ → Action
action_of k = meaning (decode k)

unfoldable pub possible_numbers : List ℕ
possible_numbers = map (λ a. encode (record_of a)) possible
