-- `Process::register` gives `register`: a number above 2 is none of 0, 1 and 2. Assumes nothing.
use native.Mathlib.Omega.{arith}
use borrow.Author.Tests.{ne_eqb}
use Rattle.node.specs.Processes.{register}
use Rattle.node.proofs.Process.register.Goals as goal

pub returns-in-0 : goal.returns-in-0
unfolding register
returns-in-0 c = rw c.in-0.is

pub returns-in-1 : goal.returns-in-1
unfolding register
returns-in-1 c = rw c.in-1.is

pub returns-in-2 : goal.returns-in-2
unfolding register
returns-in-2 c = rw c.in-2.is

pub returns-in_default : goal.returns-in_default
unfolding register
returns-in_default c = rw (ne_eqb c.args.r 0 (omega arith), ne_eqb c.args.r 1 (omega arith), ne_eqb c.args.r 2 (omega arith))
