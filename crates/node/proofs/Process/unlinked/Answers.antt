-- `Process::unlinked` gives `unlinked`. Assumes nothing.
use borrow.Author.Rules.{rules}
use Rattle.node.specs.Processes.{unlinked}
use Rattle.node.proofs.Process.unlinked.Goals as goal

pub returns : goal.returns
unfolding unlinked
returns c = search rules
