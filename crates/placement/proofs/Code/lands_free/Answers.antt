-- `Code::lands_free` looks at the op that one leads to. Assumes nothing.
use mathlib.Core.Bool.{not}
use mathlib.Core.Path.{sym, ◌∙◌, ap}
use borrow.Author.Tests.{le-leb}
use native.Mathlib.Omega.{arith}
use Rattle.behaviours.proofs.Codes.{code_length, free_none, free_past}
use Rattle.placement.proofs.Laws.{free_there}
use Rattle.placement.proofs.Code.lands_free.Goals as goal

pub returns-then-self-to : goal.returns-then-self-to
returns-then-self-to c =
    let at = c.args.self in
    let past = c.if-self-to.true in
    rw (le-leb _ _ past) (free_past _ _ c.in-Some.to (sym c.landing.ensures ∙ c.in-Some.is) (omega (arith, code_length at.len at.ops.now at.k, past)))

pub returns-else-self-to : goal.returns-else-self-to
returns-else-self-to c =
    let at = c.args.self in
    ap not c.is_part.ensures ∙ free_there at.len at.ops.now at.k c.in-Some.to c.if-self-to.false c.op.ensures c.args.op (sym c.landing.ensures ∙ c.in-Some.is)

pub returns-in-None : goal.returns-in-None
returns-in-None c = free_none _ _ (sym c.landing.ensures ∙ c.in-None.is)
