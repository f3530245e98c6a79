-- What the calls for the benchmark tell: each does its work a number of times and tells the last answer.
--   after rounds before x       x, or `before` where there was no round
--   played_by plan steps         what a play tells of the node of a plan text and the steps of a steps text; a refused plan text
--                               gives the blank node, a refused steps text no steps
--   reached_by plan steps        the node behind that play
--   sound_in rounds n            how many of the rounds find n sound
--   says_none s                  the answer s of a suggestion is that no step would be accepted
--   stuck_in rounds n            how many of the rounds are told so of n
--   singly n l                  how many of the actions l are accepted from node n on, each as a step of its own; a refused one
--                               leaves the node, and the next is tried
--   accepted_singly plan steps   the same of the node of a plan text and the steps of a steps text
use Rattle.std.specs.Prelude.{Bool, true, false, cond, List, [], ◌∷◌, ℕ, ◌+◌, eqb}
use Rattle.std.proofs.Math.Option.{Option, none, some}
use Rattle.controller.specs.Program.{steps}
use Rattle.engine.specs.Answers.{stepped_by}
use Rattle.node.specs.declared.Node.{Node}
use Rattle.plan.specs.Plans.{load_of}
use Rattle.rules.specs.Answers.{Answer, refused, done}
use Rattle.rules.specs.Nodes.{sound}
use Rattle.rules.specs.Steps.{Action, Outcome, play, step}
use Rattle.rules.specs.Suggest.{suggest}
use Rattle.schedule.specs.Reading.{schedule_of}

unfoldable pub after : {A : Type 0} → ℕ → A → A → A
after rounds before x = cond (eqb rounds 0) before x

abbrev pub played_by : List ℕ → List ℕ → Outcome
played_by plan_text steps_text = play (load_of plan_text).node (steps (schedule_of steps_text))

abbrev pub reached_by : List ℕ → List ℕ → Node
reached_by plan_text steps_text = (played_by plan_text steps_text).node

unfoldable pub sound_in : ℕ → Node → ℕ
sound_in rounds n = cond (sound n) rounds 0

abbrev pub says_none : {A : Type 0} → Answer (Option A) → Bool
says_none (refused k) = false
says_none (done (some a)) = false
says_none (done none) = true

unfoldable pub stuck_in : ℕ → Node → ℕ
stuck_in rounds n = cond (says_none (suggest n)) rounds 0

unfoldable pub singly : Node → List Action → ℕ
singly n [] = 0
singly n (a ∷ l) = let r = stepped_by n (step n a) in cond (eqb r.refusal 0) 1 0 + singly r.node l

abbrev pub accepted_singly : List ℕ → List ℕ → ℕ
accepted_singly plan_text steps_text = singly (load_of plan_text).node (steps (schedule_of steps_text))
