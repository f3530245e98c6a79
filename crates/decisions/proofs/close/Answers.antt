-- `close` tells the lowest link, or goes on to the watchers. Assumes nothing.
use mathlib.Core.Path.{sym, ◌∙◌}
use native.Mathlib.Omega.{arith}
use Rattle.decisions.proofs.Laws.{closes_linked}
use Rattle.node.proofs.Sets.{told_none, told_some}
use Rattle.rules.specs.Run.{closes}
use Rattle.decisions.proofs.close.Goals as goal

pub returns-in-Some : goal.returns-in-Some
unfolding closes
returns-in-Some c =
    let low = told_some _ _ (sym c.lowest.ensures ∙ c.in-Some.is) in
    rw (c.sends.ensures, c.unlinked.ensures, low.0, closes_linked _ c.in-Some.j.0 _ (λ e. omega (arith, low, e)))

pub returns-in-None : goal.returns-in-None
unfolding closes
returns-in-None c = rw (c.close_unlinked.ensures, told_none _ (sym c.lowest.ensures ∙ c.in-None.is))
