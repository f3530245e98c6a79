-- The operands of an op by its shape: what is asked of them in an arm of a `match` on the shape. Assumes nothing.
--   in_range_by    the operands of an op, by their kinds
--   range_at       the operands of an op of shape x are in range
--   target_at      an op of shape x has a place among its operands
use mathlib.Core.Bool.{Bool, ◌&&◌, not}
use mathlib.Core.List.{List}
use mathlib.Core.Path.{◌≡◌, sym, ◌∙◌, ap}
use Prim.Native.Nat.{ℕ, ◌<◌}
use borrow.Author.Tests.{lt-ltb}
use lib.Dec.{ltb}
use Rattle.node.specs.declared.Op.{Op}
use Rattle.node.specs.declared.OperandKind.{OperandKind}
use Rattle.node.specs.declared.OperandKind.TheVariants.{PlaceT}
use Rattle.node.specs.declared.Shape.{Shape}
use Rattle.node.specs.Lists.{all_of}
use Rattle.node.specs.Ops.{is_kind, kinds_in, kinds_of, op_count}
use Rattle.node.proofs.Lists.{all_two_map}
use Rattle.node.proofs.Ops.{op_some, some}
use Rattle.rules.specs.Behaviours.{in_range, instruction, operand, operand_in_range}
use Rattle.behaviours.specs.Codes.{has_target}

-- a place is among the operands of shape x
abbrev pub with_place : Shape → Bool
with_place x = not (all_of (λ (kind : OperandKind). not (is_kind PlaceT kind)) (kinds_in x))

-- y is the shape of op n, and it is x
module _ (n : ℕ) {y : Shape} (shaped : kinds_in y ≡ kinds_of n) (x : Shape) (is : y ≡ x) where
  by_shape : kinds_in x ≡ kinds_of n
  by_shape = sym (ap kinds_in is) ∙ shaped

  pub target_at : {r : Bool} → r ≡ with_place x → r ≡ has_target n
  unfolding has_target
  target_at e = e ∙ ap (λ (ks : List OperandKind). not (all_of (λ (kind : OperandKind). not (is_kind PlaceT kind)) ks)) by_shape

module _ (o : Op) (c n : ℕ) where
  abbrev fit : List OperandKind → Bool
  fit = all_of (λ (kind : OperandKind). operand_in_range c n kind (operand o kind))

  by_table : (ltb o.number op_count && fit (kinds_of o.number)) ≡ in_range c n (instruction o)
  unfolding in_range instruction
  by_table = ap (λ (b : Bool). ltb o.number op_count && b) (sym (all_two_map (operand_in_range c n) (operand o) (kinds_of o.number)))

  pub in_range_by : o.number < op_count → fit (kinds_of o.number) ≡ in_range c n (instruction o)
  in_range_by h = rw (lt-ltb o.number op_count h) at by_table

  pub range_at : {y : Shape} → kinds_in y ≡ kinds_of o.number → (x : Shape) → y ≡ x → {r : Bool} → r ≡ (some (kinds_in x) && fit (kinds_in x)) → r ≡ in_range c n (instruction o)
  range_at shaped x is v =
      v
      ∙ ap (λ (ks : List OperandKind). some ks && fit ks) (by_shape o.number shaped x is)
      ∙ ap (λ (b : Bool). b && fit (kinds_of o.number)) (sym (op_some o.number))
      ∙ by_table
