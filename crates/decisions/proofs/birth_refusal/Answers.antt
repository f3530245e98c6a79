-- `birth_refusal` tells 27 behind what refuses already. Assumes nothing.
use mathlib.Core.Bool.{not, cond}
use mathlib.Core.Path.{◌∙◌, ap}
use Prim.Native.Nat.{ℕ}
use lib.Dec.{eqb}
use Rattle.std.specs.Bool.{then_some}
use Rattle.node.specs.declared.Refusal.TheVariants.{NotUnborn}
use Rattle.node.specs.Refusals.{refusal_told}
use Rattle.decisions.specs.Decided.{birth_refusal}
use Rattle.decisions.proofs.Before.{told_first, told_unless}
use Rattle.decisions.proofs.birth_refusal.Goals as goal

pub returns : goal.returns
unfolding birth_refusal
returns c =
    let r = refusal_told c.args.refusal in
    let unborn = c.is_unborn.ensures in
    let taken = ap refusal_told c.then_some-taken.ensures ∙ (λ i. refusal_told (then_some (not (unborn i)) NotUnborn)) ∙ told_unless _ _ in
    ap refusal_told c.or.ensures ∙ told_first _ _ ∙ ap (λ (k : ℕ). cond (eqb r 0) k r) taken
