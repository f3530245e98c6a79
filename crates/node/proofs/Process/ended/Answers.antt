-- `Process::ended` gives `ended`. Assumes nothing.
use borrow.Author.Rules.{rules}
use Rattle.node.specs.Processes.{ended}
use Rattle.node.proofs.Process.ended.Goals as goal

pub returns : goal.returns
unfolding ended
returns c = search rules
