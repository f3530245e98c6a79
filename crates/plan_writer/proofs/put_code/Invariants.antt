-- `put_code` writes the line `code=` and the ops one by one. The invariant: what is left to write are the ops from the turn's on. Assumes nothing.
use mathlib.Core.List.{map}
use lib.ListN.{drop}
use Rattle.rules.specs.Behaviours.{instruction}
use Rattle.text.specs.Writing.{each}
use Rattle.text.proofs.Writing.{Left}
use Rattle.plan_writer.proofs.Laws.{op_text}
use Rattle.plan_writer.proofs.put_code.Given as goal

abbrev pub invariant-loop-op : goal.invariant-loop-op
invariant-loop-op l = Left l.initial.out l.initial.e (each op_text (map instruction l.code)) l.out l.e (each op_text (drop l.op-index (map instruction l.code)))
