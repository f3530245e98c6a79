-- `lands_free` looks at the op that one leads to. Assumes nothing.
use mathlib.Core.Bool.{not}
use mathlib.Core.Path.{sym, ◌∙◌, ap}
use borrow.Author.Tests.{le-leb}
use lib.ListN.{length-map}
use Rattle.rules.specs.Behaviours.{instruction}
use Rattle.behaviours.proofs.Codes.{free_none, free_past}
use Rattle.behaviours.proofs.Pass.{free_there}
use Rattle.behaviours.proofs.lands_free.Goals as goal

pub returns-then-code-to : goal.returns-then-code-to
returns-then-code-to c = rw (le-leb _ _ c.if-code-to.true) (free_past _ _ c.in-Some.to (sym c.landing.ensures ∙ c.in-Some.is) (rw (length-map c.args.code.now instruction) c.if-code-to.true))

pub returns-else-code-to : goal.returns-else-code-to
returns-else-code-to c = ap not c.is_part.ensures ∙ free_there _ _ c.in-Some.to (sym c.landing.ensures ∙ c.in-Some.is) c.if-code-to.false

pub returns-in-None : goal.returns-in-None
returns-in-None c = free_none _ _ (sym c.landing.ensures ∙ c.in-None.is)
