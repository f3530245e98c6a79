-- `Process::watching` gives `watching`. Assumes nothing.
use borrow.Author.Rules.{rules}
use Rattle.node.specs.Processes.{watching}
use Rattle.node.proofs.Process.watching.Goals as goal

pub returns : goal.returns
unfolding watching
returns c = search rules
