-- `Process::linked` gives `linked`. Assumes nothing.
use borrow.Author.Rules.{rules}
use Rattle.node.specs.Processes.{linked}
use Rattle.node.proofs.Process.linked.Goals as goal

pub returns : goal.returns
unfolding linked
returns c = search rules
