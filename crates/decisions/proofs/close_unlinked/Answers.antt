-- `close_unlinked` tells the lowest watcher, or is gone. Assumes nothing.
use mathlib.Core.Path.{sym, ◌∙◌}
use native.Mathlib.Omega.{arith}
use Rattle.decisions.proofs.Laws.{closes_watched}
use Rattle.node.proofs.Sets.{told_none, told_some}
use Rattle.decisions.proofs.close_unlinked.Goals as goal

pub returns-in-Some : goal.returns-in-Some
returns-in-Some c =
    let low = told_some _ _ (sym c.lowest.ensures ∙ c.in-Some.is) in
    rw (c.sends.ensures, c.unwatched.ensures, low.0, closes_watched _ 0 c.in-Some.j.0 (λ e. omega (arith, low, e)))

pub returns-in-None : goal.returns-in-None
returns-in-None c = rw (c.becomes.ensures, c.gone.ensures, told_none _ (sym c.lowest.ensures ∙ c.in-None.is))
