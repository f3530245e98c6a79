-- `Process::watched` gives `watched`. Assumes nothing.
use borrow.Author.Rules.{rules}
use Rattle.node.specs.Processes.{watched}
use Rattle.node.proofs.Process.watched.Goals as goal

pub returns : goal.returns
unfolding watched
returns c = search rules
