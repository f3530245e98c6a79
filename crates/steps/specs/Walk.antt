-- A play step by step.
--   begins n count   the play of `count` steps before its first: 31, 32, or nothing refused
--   with_answer r x   play r behind a step that is answered by x
--   goes_on r a       play r, one step further; a play that is refused stays
use Rattle.std.specs.Prelude.{cond, not, ℕ, ◌+◌, eqb, ltb}
use Rattle.node.specs.declared.Node.{Node}
use Rattle.rules.specs.Answers.{Answer, refused, done, not_sound, schedule_too_long}
use Rattle.rules.specs.Nodes.{sound}
use Rattle.rules.specs.Steps.{Action, Outcome, step}

unfoldable pub begins : Node → ℕ → Outcome
begins n count = record { accepted = 0; refusal = cond (not (sound n)) not_sound (cond (ltb 4096 count) schedule_too_long 0); node = n }

abbrev pub with_answer : Outcome → Answer Node → Outcome
with_answer r (refused k) = record { accepted = r.accepted; refusal = k; node = r.node }
with_answer r (done m) = record { accepted = r.accepted + 1; refusal = 0; node = m }

unfoldable pub goes_on : Outcome → Action → Outcome
goes_on r a = cond (eqb r.refusal 0) (with_answer r (step r.node a)) r
