-- `play` looks at 31 and 32 before the loop. Assumes nothing.
use mathlib.Core.List.{map}
use mathlib.Core.Path.{refl, sym, ◌∙◌}
use lib.ListN.{length-map}
use Rattle.actions.specs.Numbers.{action_of}
use Rattle.engine.proofs.Calls.{play_31, play_32, play_on}
use Rattle.engine.proofs.play.Goals as goal

pub returns-then-not-sound : goal.returns-then-not-sound
returns-then-not-sound c = c.ended-stop.ensures c.args.n ∙ play_31 c.args.n (map action_of c.args.numbers.now) (sym c.sound.ensures ∙ c.if-not-sound.true)

pub returns-then-numbers-gt-LONGEST : goal.returns-then-numbers-gt-LONGEST
returns-then-numbers-gt-LONGEST c =
    c.ended.ensures c.args.n
    ∙ play_32 c.args.n (map action_of c.args.numbers.now) (sym c.sound.ensures ∙ c.if-not-sound.false) (rw (length-map c.args.numbers.now action_of) c.if-numbers-gt-LONGEST.true)

pub returns-else-numbers-gt-LONGEST : goal.returns-else-numbers-gt-LONGEST
returns-else-numbers-gt-LONGEST c =
    c.core.ensures.result_value refl
    ∙ play_on c.args.n (map action_of c.args.numbers.now) (sym c.sound.ensures ∙ c.if-not-sound.false) (rw (length-map c.args.numbers.now action_of) c.if-numbers-gt-LONGEST.false)
