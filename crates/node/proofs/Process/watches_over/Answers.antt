-- `Process::watches_over` gives `watches_over`. Assumes nothing.
use borrow.Author.Rules.{rules}
use Rattle.node.specs.Processes.{watches_over}
use Rattle.node.proofs.Process.watches_over.Goals as goal

pub returns : goal.returns
unfolding watches_over
returns c = search rules
