-- `load` makes the node once: of what was read, or of what the blank node holds. Assumes nothing.
use mathlib.Core.Path.{ap, ◌∙◌}
use Rattle.std.specs.Prelude.{Option}
use Rattle.node.specs.declared.Node.{Node}
use Rattle.plan.specs.declared.fault.Refused.{Refused}
use Rattle.plan.specs.declared.loading.Codes.{Codes}
use Rattle.plan.specs.Plans.{Loaded, refused_load}
use Rattle.plan.specs.Rests.{coded_node, loaded_told}
use Rattle.plan.proofs.load.Goals as goal
use Rattle.plan.proofs.load.Goals.{in-Ok, in-Err}

-- what is told of a refusal, or none, and what goes into the node
abbrev loaded : Option Refused → Node → Loaded
loaded refused node = loaded_told (record { refused = refused; node = node })

pub returns : goal.returns
unfolding refused_load
returns c =
    ap (loaded c.match-read.refused.0) c.node.ensures
    ∙ elim c.match-read.branch [
      | in-Ok w ↦ ap (λ (x : Option Refused × Codes). loaded x.0 (coded_node x.1)) w.refused-is ∙ w.in-Ok.ensures
      | in-Err w ↦ ap (λ (x : Option Refused × Codes). loaded x.0 (coded_node x.1)) w.refused-is ∙ rw w.blank.ensures w.in-Err.ensures
    ]
