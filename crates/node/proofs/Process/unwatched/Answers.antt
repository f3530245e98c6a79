-- `Process::unwatched` gives `unwatched`. Assumes nothing.
use borrow.Author.Rules.{rules}
use Rattle.node.specs.Processes.{unwatched}
use Rattle.node.proofs.Process.unwatched.Goals as goal

pub returns : goal.returns
unfolding unwatched
returns c = search rules
