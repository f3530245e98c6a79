-- `Process::watched_by` gives `watched_by`. Assumes nothing.
use borrow.Author.Rules.{rules}
use Rattle.node.specs.Processes.{watched_by}
use Rattle.node.proofs.Process.watched_by.Goals as goal

pub returns : goal.returns
unfolding watched_by
returns c = search rules
