-- `pair_refusal` tells 26 behind what refuses already. Assumes nothing.
use mathlib.Core.Bool.{cond}
use mathlib.Core.Path.{◌∙◌, ap}
use Prim.Native.Nat.{ℕ}
use lib.Dec.{eqb}
use Rattle.node.specs.Refusals.{refusal_told}
use Rattle.decisions.specs.Decided.{pair_refusal}
use Rattle.decisions.proofs.Before.{told_first, told_where}
use Rattle.decisions.proofs.pair_refusal.Goals as goal

pub returns : goal.returns
unfolding pair_refusal
returns c =
    let r = refusal_told c.args.refusal in
    let full = ap refusal_told c.then_some-full.ensures ∙ told_where _ _ in
    ap refusal_told c.or.ensures ∙ told_first _ _ ∙ ap (λ (k : ℕ). cond (eqb r 0) k r) full
