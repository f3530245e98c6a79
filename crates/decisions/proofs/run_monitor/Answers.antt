-- `run_monitor`: the process ends where r names none. Assumes nothing.
use mathlib.Core.Path.{◌∙◌}
use Rattle.node.specs.declared.Signal.TheVariants.{Monitor}
use Rattle.node.specs.Processes.{watching}
use Rattle.decisions.proofs.Laws.{no_receiver}
use Rattle.decisions.proofs.run_monitor.Goals as goal

pub returns-in_default : goal.returns-in_default
returns-in_default c = c.end_badarg.ensures ∙ no_receiver c.args.i.0 c.args.p (watching c.args.p) Monitor c.register.ensures c.in_default.not-Pid
