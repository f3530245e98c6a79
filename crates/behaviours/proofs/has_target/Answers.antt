-- `has_target` gives `has_target`: at each shape, whether a place is among its operands. Assumes nothing.
use mathlib.Core.Bool.{true, false}
use mathlib.Core.Logic.{◌⊎◌, inl, inr}
use mathlib.Core.Path.{◌≡◌, refl}
use Rattle.node.specs.declared.Shape.{Shape}
use Rattle.node.specs.declared.Shape.TheVariants.{Nothing, R, RS, RV, F, RBQ, N, KRST, T, RVT, RST}
use Rattle.node.specs.Ops.{kinds_in}
use Rattle.behaviours.proofs.Operands.{target_at, with_place}
use Rattle.behaviours.proofs.has_target.Goals as goal

placed : (x : Shape) → (x ≡ KRST) ⊎ ((x ≡ T) ⊎ ((x ≡ RVT) ⊎ (x ≡ RST))) → true ≡ with_place x
unfolding kinds_in
placed x (inl e) = rw e
placed x (inr (inl e)) = rw e
placed x (inr (inr (inl e))) = rw e
placed x (inr (inr (inr e))) = rw e

unplaced : (x : Shape) → (x ≡ KRST → ⊥) → (x ≡ T → ⊥) → (x ≡ RVT → ⊥) → (x ≡ RST → ⊥) → false ≡ with_place x
unfolding kinds_in
unplaced Nothing a b c d = refl
unplaced R a b c d = refl
unplaced RS a b c d = refl
unplaced RV a b c d = refl
unplaced F a b c d = refl
unplaced RBQ a b c d = refl
unplaced N a b c d = refl
unplaced KRST a b c d = absurd (a refl)
unplaced T a b c d = absurd (b refl)
unplaced RVT a b c d = absurd (c refl)
unplaced RST a b c d = absurd (d refl)

pub returns-in-KRST : goal.returns-in-KRST
returns-in-KRST c = target_at _ c.shape_of.ensures _ refl (placed c.shape_of.result c.in-KRST.is)

pub returns-in_default : goal.returns-in_default
returns-in_default c =
    let d = c.in_default in
    target_at _ c.shape_of.ensures _ refl (unplaced c.shape_of.result d.not-KRST d.not-T d.not-RVT d.not-RST)
