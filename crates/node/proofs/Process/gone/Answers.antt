-- `Process::gone` gives `gone`. Assumes nothing.
use borrow.Author.Rules.{rules}
use Rattle.node.specs.Processes.{gone}
use Rattle.node.proofs.Process.gone.Goals as goal

pub returns : goal.returns
unfolding gone
returns c = search rules
