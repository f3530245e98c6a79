-- `run_link`: to the process that r names. Assumes nothing.
use mathlib.Core.Path.{◌∙◌}
use Rattle.node.specs.declared.Signal.TheVariants.{Link}
use Rattle.node.specs.Processes.{linked}
use Rattle.decisions.proofs.Laws.{to_named}
use Rattle.decisions.proofs.run_link.Goals as goal

pub returns : goal.returns
returns c =
    let law = to_named c.args.i.0 c.args.p (linked c.args.p) Link in
    c.send_to_other.ensures ∙ law c.register-v.ensures c.named.ensures c.linked-next.ensures
