-- What the program prints (document 01, "Plan, steps and listing text").
--   refused_line key k line   `key` with a refusal's number and line
--   played_text r             what is printed of a play: the count, the refusal and the listing of the node
--   steps s                  the steps of an accepted steps text, as actions
--   program_text plan steps   what is printed for a plan text and a steps text
--   longest_answer            no plan text and steps text have a longer answer
use Rattle.std.specs.Prelude.{cond, List, ◌++◌, map, ℕ, eqb, take}
use Rattle.node.specs.Texts.{bytes}
use Rattle.actions.specs.Numbers.{action_of}
use Rattle.listing.specs.Listing.{listing_of}
use Rattle.plan.specs.Plans.{Loaded, load_of}
use Rattle.rules.specs.Steps.{Action, Outcome, play}
use Rattle.schedule.specs.Reading.{Schedule, schedule_of}
use Rattle.text.specs.Writing.{digits, number_line}

abbrev pub load_key : List ℕ
load_key = bytes "load="

abbrev pub steps_key : List ℕ
steps_key = bytes "steps="

abbrev pub accepted_key : List ℕ
accepted_key = bytes "accepted="

abbrev pub refused_key : List ℕ
refused_key = bytes "refused="

-- "`load=number,line`", "`steps=number,line`"
unfoldable pub refused_line : List ℕ → ℕ → ℕ → List ℕ
refused_line key k line = key ++ digits k ++ bytes "," ++ digits line ++ bytes "\n"

-- "`accepted=`, `refused=` and the listing"
unfoldable pub played_text : Outcome → List ℕ
played_text r = number_line accepted_key r.accepted ++ number_line refused_key r.refusal ++ listing_of r.node

abbrev pub steps : Schedule → List Action
steps s = map action_of (take s.count s.steps)

-- the text of the steps is looked at only where the plan is accepted
unfoldable pub after_load : Loaded → Schedule → List ℕ
after_load l s =
    cond (eqb l.number 0)
    (cond (eqb s.number 0) (played_text (play l.node (steps s))) (refused_line steps_key s.number s.line))
    (refused_line load_key l.number l.line)

unfoldable pub program_text : List ℕ → List ℕ → List ℕ
program_text plan_text steps_text = after_load (load_of plan_text) (schedule_of steps_text)

-- a listing of at most 41,792 bytes and two short lines before it, or one short line
abbrev pub longest_answer : ℕ
longest_answer = 45056
