-- `Process::trapped` gives `trapped`. Assumes nothing.
use borrow.Author.Rules.{rules}
use Rattle.node.specs.Processes.{trapped}
use Rattle.node.proofs.Process.trapped.Goals as goal

pub returns : goal.returns
unfolding trapped
returns c = search rules
