-- `in_range` gives `in_range`: at each shape, the operands that it has. Assumes nothing.
use Rattle.node.specs.declared.Shape.TheVariants.{Nothing, R, RS, RV, F, RBQ, N, KRST, T, RVT, RST}
use Rattle.node.specs.Ops.{kinds_in}
use Rattle.node.specs.Values.{value_sound}
use Rattle.rules.specs.Behaviours.{operand, operand_in_range}
use Rattle.behaviours.proofs.Operands.{range_at}
use lib.Dec.{leb}
use mathlib.Core.Bool.{true, ◌&&◌, and_assoc, and-true}
use mathlib.Core.Path.{refl, ◌∙◌, sym}
use Rattle.behaviours.proofs.in_range.Goals as goal

pub returns-in-Nothing : goal.returns-in-Nothing
unfolding kinds_in operand_in_range operand
returns-in-Nothing c =
    range_at _ _ _ c.shape_of.ensures Nothing c.in-Nothing.is refl

pub returns-in-R : goal.returns-in-R
unfolding kinds_in operand_in_range operand
returns-in-R c =
    range_at _ _ _ c.shape_of.ensures R c.in-R.is (simp and-true)

pub returns-in-RS : goal.returns-in-RS
unfolding kinds_in operand_in_range operand
returns-in-RS c =
    range_at _ _ _ c.shape_of.ensures RS c.in-RS.is (c.registers.ensures ∙ simp and-true)

pub returns-in-RV : goal.returns-in-RV
unfolding kinds_in operand_in_range operand
returns-in-RV c =
    range_at _ _ _ c.shape_of.ensures RV c.in-RV.is (c.register_and_value.ensures ∙ simp and-true)

pub returns-in-F : goal.returns-in-F
unfolding kinds_in operand_in_range operand
returns-in-F c =
    range_at _ _ _ c.shape_of.ensures F c.in-F.is (simp and-true)

pub returns-in-RBQ : goal.returns-in-RBQ
unfolding kinds_in operand_in_range operand
returns-in-RBQ c =
    range_at _ _ _ c.shape_of.ensures RBQ c.in-RBQ.is (c.register_and_numbers.ensures ∙ simp (and_assoc, and-true))

pub returns-in-N : goal.returns-in-N
unfolding kinds_in operand_in_range operand
returns-in-N c =
    range_at _ _ _ c.shape_of.ensures N c.in-N.is (c.within.ensures ∙ simp and-true)

pub returns-then-clause_kind_sound : goal.returns-then-clause_kind_sound
unfolding kinds_in operand_in_range operand
returns-then-clause_kind_sound c =
    range_at _ _ _ c.shape_of.ensures KRST c.in-KRST.is (rw (sym c.clause_kind_sound.ensures ∙ c.if-clause_kind_sound.true)
    (c.registers_and_place.ensures ∙ simp (and_assoc, and-true)))

pub returns-else-clause_kind_sound : goal.returns-else-clause_kind_sound
unfolding kinds_in operand_in_range operand
returns-else-clause_kind_sound c =
    range_at _ _ _ c.shape_of.ensures KRST c.in-KRST.is (rw (sym c.clause_kind_sound.ensures ∙ c.if-clause_kind_sound.false) c.if-clause_kind_sound.false)

pub returns-in-T : goal.returns-in-T
unfolding kinds_in operand_in_range operand
returns-in-T c =
    range_at _ _ _ c.shape_of.ensures T c.in-T.is (simp and-true)

pub returns-then-register_and_value : goal.returns-then-register_and_value
unfolding kinds_in operand_in_range operand
returns-then-register_and_value c =
    let a = c.args in
    range_at _ _ _ c.shape_of.ensures RVT c.in-RVT.is
    (rw (← and_assoc (leb a.op.r 3) (value_sound a.op.value) (leb a.op.target a.len && true), sym c.register_and_value-in-RVT.ensures ∙ c.if-register_and_value.true)
    (simp and-true))

pub returns-else-register_and_value : goal.returns-else-register_and_value
unfolding kinds_in operand_in_range operand
returns-else-register_and_value c =
    let a = c.args in
    range_at _ _ _ c.shape_of.ensures RVT c.in-RVT.is
    (rw (← and_assoc (leb a.op.r 3) (value_sound a.op.value) (leb a.op.target a.len && true), sym c.register_and_value-in-RVT.ensures ∙ c.if-register_and_value.false)
    c.if-register_and_value.false)

pub returns-in-RST : goal.returns-in-RST
unfolding kinds_in operand_in_range operand
returns-in-RST c =
    range_at _ _ _ c.shape_of.ensures RST c.in-RST.is (c.registers_and_place-in-RST.ensures ∙ simp (and_assoc, and-true))
