-- The node that two texts reach, by what is refused; and what is told of it, whatever it is that is told. Assumes nothing.
--   plan_refused steps_refused both_played   one of the texts is refused, and none is
--   reached_refused reached_told             the largest number is told where no node is reached, else what is told of the node
use mathlib.Core.Option.{Option, none, some}
use mathlib.Core.Path.{◌≡◌, ap, ◌∙◌}
use Prim.Native.Nat.{ℕ}
use borrow.Author.Tests.{eq-eqb, ne_eqb}
use Rattle.controller.specs.Program.{steps}
use Rattle.engine.specs.declared.Played.{Played}
use Rattle.engine.specs.Answers.{played_of}
use Rattle.node.specs.declared.Node.{Node}
use Rattle.plan.specs.Plans.{Loaded}
use Rattle.rules.specs.Steps.{Outcome, play}
use Rattle.schedule.specs.Reading.{Schedule}
use Rattle.text.specs.Writing.{top}
use Rattle.controller_c.specs.Exported.{reached_by, of_reached}

module _ (x : Loaded) (s : Schedule) {p : Loaded} (loaded : p ≡ x) where
  pub plan_refused : (p.number ≡ 0 → ⊥) → none ≡ reached_by x s
  unfolding reached_by
  plan_refused h = rw (← loaded, ne_eqb p.number 0 h)

  module _ (good : p.number ≡ 0) {q : Schedule} (read : q ≡ s) where
    pub steps_refused : (q.number ≡ 0 → ⊥) → none ≡ reached_by x s
    unfolding reached_by
    steps_refused h = rw (← loaded, ← read, eq-eqb p.number 0 good, ne_eqb q.number 0 h)

    pub both_played : (r : Played) → q.number ≡ 0 → played_of r ≡ play p.node (steps q) → some r.node ≡ reached_by x s
    unfolding reached_by
    both_played r h e = rw (← loaded, ← read, eq-eqb p.number 0 good, eq-eqb q.number 0 h) (ap (λ (o : Outcome). some o.node) e)

module _ (f : Node → ℕ) {o : Option Node} where
  pub reached_refused : none ≡ o → top ≡ of_reached f o
  reached_refused h = ap (of_reached f) h

  pub reached_told : {n : Node} {k : ℕ} → some n ≡ o → k ≡ f n → k ≡ of_reached f o
  reached_told h e = e ∙ ap (of_reached f) h
