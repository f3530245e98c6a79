-- `Process::unwatching` gives `unwatching`. Assumes nothing.
use borrow.Author.Rules.{rules}
use Rattle.node.specs.Processes.{unwatching}
use Rattle.node.proofs.Process.unwatching.Goals as goal

pub returns : goal.returns
unfolding unwatching
returns c = search rules
