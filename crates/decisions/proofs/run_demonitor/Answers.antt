-- `run_demonitor`: the process ends where r names none. Assumes nothing.
use mathlib.Core.Path.{◌∙◌}
use Rattle.node.specs.declared.Signal.TheVariants.{Demonitor}
use Rattle.node.specs.Processes.{unwatching}
use Rattle.decisions.proofs.Laws.{no_receiver}
use Rattle.decisions.proofs.run_demonitor.Goals as goal

pub returns-in_default : goal.returns-in_default
returns-in_default c = c.end_badarg.ensures ∙ no_receiver c.args.i.0 c.args.p (unwatching c.args.p) Demonitor c.register.ensures c.in_default.not-Pid
