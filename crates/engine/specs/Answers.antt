-- What the answers of the engine mean in the rules of document 01.
--   played_of r      the answer of a play: count, refusal and node
--   stop_of r n      what the loop tells of a play, with the node that it was lent
--   Stepped          what a step tells: its refusal, 0 if none, and the node behind it
--   stepped_of n r   what the code's answer of a step of node n stands for: a refusal leaves the node
--   stepped_by n a   the answer of a step of node n: a refusal leaves the node
--   suggestion_of s  the answer of a suggestion: 31, a step, or none
--   recorded a      an answer with the record of its step
--   first_of n l     how many steps of l come before the first that node n would accept
use Rattle.std.specs.Prelude.{cond, List, [], ◌∷◌, ℕ, ◌+◌, Option as Optional, Some, None, Result, Ok, Err}
use Rattle.std.proofs.Math.Option.{Option, none, some}
use Rattle.node.specs.Refusals.{refusal_number, refusal_told}
use Rattle.node.specs.declared.Node.{Node}
use Rattle.node.specs.declared.Refusal.{Refusal}
use Rattle.node.specs.declared.Step.{Step}
use Rattle.rules.specs.Answers.{Answer, refused, done, not_sound}
use Rattle.rules.specs.Steps.{Action, record_of}
use Rattle.rules.specs.Steps as steps
use Rattle.rules.specs.Suggest.{acceptable}
use Rattle.engine.specs.declared.Stop.{Stop}
use Rattle.engine.specs.declared.Played.{Played}
use Rattle.soundness.specs.declared.NotSound.{NotSound}

abbrev pub played_of : Played → steps.Outcome
played_of r = record { accepted = r.accepted; refusal = refusal_told r.refusal; node = r.node }

abbrev pub stop_of : Stop → Node → steps.Outcome
stop_of r n = record { accepted = r.accepted; refusal = refusal_told r.refusal; node = n }

pub record Stepped : Type 0 where
  pub node : Node
  pub refusal : ℕ

abbrev pub stepped_of : Node → Result Node Refusal → Stepped
stepped_of n (Ok m) = record { refusal = 0; node = m }
stepped_of n (Err r) = record { refusal = refusal_number r; node = n }

abbrev pub stepped_by : Node → Answer Node → Stepped
stepped_by n (refused k) = record { refusal = k; node = n }
stepped_by n (done m) = record { refusal = 0; node = m }

abbrev pub suggestion_of : Result (Optional Step) NotSound → Answer (Option Step)
suggestion_of (Err e) = refused not_sound
suggestion_of (Ok (Some s)) = done (some s)
suggestion_of (Ok None) = done none

abbrev pub recorded : Answer (Option Action) → Answer (Option Step)
recorded (refused k) = refused k
recorded (done (some a)) = done (some (record_of a))
recorded (done none) = done none

abbrev pub first_of : Node → List Action → ℕ
first_of n [] = 0
first_of n (a ∷ l) = cond (acceptable n a) 0 (first_of n l + 1)
