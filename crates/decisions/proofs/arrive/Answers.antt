-- `arrive`: by the stage. Assumes nothing.
use mathlib.Core.Logic.{⊎_elim}
use mathlib.Core.Path.{◌∙◌}
use Rattle.decisions.proofs.Laws.{comes_at}
use Rattle.decisions.proofs.arrive.Goals as goal

pub returns-in-Unborn : goal.returns-in-Unborn
returns-in-Unborn c = comes_at c.args.i c.args.j c.args.p c.args.count c.args.x c.in-Unborn.is

pub returns-in-Live : goal.returns-in-Live
returns-in-Live c = c.take.ensures ∙ comes_at c.args.i c.args.j c.args.p c.args.count c.args.x c.in-Live.is

pub returns-in-Closing : goal.returns-in-Closing
returns-in-Closing c =
    let a = c.args in
    c.answer.ensures a.count
    ∙ ⊎_elim (λ e. comes_at a.i a.j a.p a.count a.x e) (λ e. comes_at a.i a.j a.p a.count a.x e) c.in-Closing.is
