-- `Process::advanced` gives `advanced`. Assumes nothing.
use borrow.Author.Rules.{rules}
use Rattle.node.specs.Processes.{advanced}
use Rattle.node.proofs.Process.advanced.Goals as goal

pub returns : goal.returns
unfolding advanced
returns c = search rules
