-- `Peers::without` takes a digit away that is there. Assumes nothing.
use mathlib.Core.Bool.{true}
use mathlib.Core.Path.{◌≡◌, sym, ◌∙◌}
use Prim.Native.Nat.{◌-◌}
use Rattle.node.specs.Sets.{has}
use Rattle.node.proofs.Sets.{has_inside, without_there, without_none, there_least, shifted}
use Rattle.node.proofs.Peers.without.Goals as goal

pub returns-then-not-has : goal.returns-then-not-has
returns-then-not-has c = sym (without_none _ _ (sym c.has.ensures ∙ c.if-not-has.true))

pub overflow_shl-result : goal.overflow_shl-result
overflow_shl-result c = rw c.index.ensures (has_inside _ _ (sym c.has.ensures ∙ c.if-not-has.false))

pub overflow_sub-result : goal.overflow_sub-result
overflow_sub-result c =
    let there : has c.args.self c.args.j.0 ≡ true = sym c.has.ensures ∙ c.if-not-has.false in
    rw (c.index.ensures, shifted (c.args.j.0 - 1) (has_inside _ _ there)) (there_least _ _ there)

pub returns : goal.returns
returns c =
    let there : has c.args.self c.args.j.0 ≡ true = sym c.has.ensures ∙ c.if-not-has.false in
    rw (c.index.ensures, shifted (c.args.j.0 - 1) (has_inside _ _ there)) (sym (without_there _ _ there))
