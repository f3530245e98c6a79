-- `Process::links_to` gives `links_to`. Assumes nothing.
use borrow.Author.Rules.{rules}
use Rattle.node.specs.Processes.{links_to}
use Rattle.node.proofs.Process.links_to.Goals as goal

pub returns : goal.returns
unfolding links_to
returns c = search rules
