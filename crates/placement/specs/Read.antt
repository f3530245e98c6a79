-- The ops that the walk reads, in the words of the plan's rules (crate `rules`).
--   code_of c   the behaviour that c stands for
use Rattle.std.specs.Prelude.{List}
use Rattle.rules.specs.Behaviours.{Instruction}
use Rattle.behaviours.specs.Codes.{code_in}
use Rattle.placement.specs.declared.Code.{Code}

abbrev pub code_of : Code → List Instruction
code_of c = code_in c.len c.ops.now c.k
