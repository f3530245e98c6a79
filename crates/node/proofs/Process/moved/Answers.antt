-- `Process::moved` gives `moved`. Assumes nothing.
use borrow.Author.Rules.{rules}
use Rattle.node.specs.Processes.{moved}
use Rattle.node.proofs.Process.moved.Goals as goal

pub returns : goal.returns
unfolding moved
returns c = search rules
