-- `behaviour_sound` tests op after op. The loop keeps that what is left gives the answer. Assumes nothing.
use Rattle.std.specs.Prelude.{map}
use Rattle.rules.specs.Behaviours.{code_sound, instruction}
use Rattle.behaviours.proofs.Pass.{Pass}
use Rattle.behaviours.proofs.behaviour_sound.Given as goal

abbrev pub invariant-loop-op : goal.invariant-loop-op
invariant-loop-op l = Pass l.count l.code l.op-index l.due (code_sound l.count (map instruction l.code))
