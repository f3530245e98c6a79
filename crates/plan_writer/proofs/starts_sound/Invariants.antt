-- `starts_sound` tests the starts one by one. The invariant: those that are left decide. Assumes nothing.
use mathlib.Core.Path.{◌≡◌}
use lib.ListN.{drop}
use Rattle.node.specs.Starts.{starts_in}
use Rattle.plan_writer.specs.Answers.{starts_rise, starts_sound}
use Rattle.plan_writer.proofs.starts_sound.Given as goal

abbrev pub invariant-loop-s : goal.invariant-loop-s
invariant-loop-s l = starts_sound l.count (starts_in l.fn.starts) ≡ starts_rise l.count l.last (drop l.s-index (starts_in l.fn.starts))
