-- `put_starts` writes the starts one by one. The invariant: what is left to write are those from k on. Assumes nothing.
use native.Mathlib.Omega.{arith}
use Rattle.text.proofs.Writing.{left_all}
use Rattle.plan_writer.proofs.Tests.{starts_within}
use Rattle.plan_writer.proofs.Laws.{left_start, starts_end}
use Rattle.plan_writer.proofs.Plan.put_starts.Goals as goal

pub bounds-self-k : goal.bounds-self-k
bounds-self-k c = omega (arith, starts_within c.args.self.now.behaviours c.args.self.now.starts c.args.self.now.sound)

pub loop-k-init : goal.loop-k-init
loop-k-init c = left_all _ _ _ (omega arith) (omega arith)

pub loop-k-preserved : goal.loop-k-preserved
loop-k-preserved c = left_start _ _ c.loop-k.invariant c.loop-k-test.true c.put_start-e.ensures

pub shape_of-out : goal.shape_of-out
shape_of-out c = c.loop-k.invariant.same

pub returns : goal.returns
returns c = starts_end _ _ c.loop-k.invariant c.loop-k-test.false
