-- What the code reads of the ops of a node, in the words of the plan's rules (crate `rules`): so a function that is handed a part of a
-- node says what it answers. For the arrays of one node, `codes_in` is the behaviours of its view.
--   code_in n ops k       the behaviour of n ops that stands at k, the first being 0
--   codes_in c lens ops   the c behaviours
--   placed_by k x         where k parts of a recv may stand, x is a clause if one is due, and an `after` only if it is the one that may stand
--   has_target n          op n has a place among its operands
use Rattle.std.specs.Prelude.{Bool, not, cond, List, map, ℕ, ◌-◌, ◌*◌, eqb, leb, ltb, get_or, drop}
use Rattle.node.specs.declared.Op.{Op}
use Rattle.node.specs.declared.OperandKind.TheVariants.{PlaceT}
use Rattle.node.specs.Lists.{firsts, rising, all_of}
use Rattle.node.specs.Nodes.{no_op}
use Rattle.node.specs.Ops.{is_kind, kinds_of}
use Rattle.rules.specs.Behaviours.{Instruction, instruction, is_clause, is_after}

unfoldable pub code_in : ℕ → List Op → ℕ → List Instruction
code_in n ops k = map instruction (firsts no_op n (drop (32 * k) ops))

unfoldable pub codes_in : ℕ → List ℕ → List Op → List (List Instruction)
codes_in c lens ops = map (λ b. code_in (get_or lens (b - 1) 0) ops (b - 1)) (rising 1 c)

unfoldable pub placed_by : ℕ → Instruction → Bool
placed_by k x = cond (is_clause x) (ltb 1 k) (cond (is_after x) (eqb k 1) (leb k 1))

unfoldable pub has_target : ℕ → Bool
has_target n = not (all_of (λ kind. not (is_kind PlaceT kind)) (kinds_of n))
