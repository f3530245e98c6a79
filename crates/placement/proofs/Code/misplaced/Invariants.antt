-- `Code::misplaced` walks the ops of a behaviour. The loop keeps how many parts of a recv may stand, and that the ops that are left give the answer.
-- Assumes nothing.
use mathlib.Core.Path.{◌≡◌}
use Prim.Native.Nat.{◌+◌}
use lib.ListN.{take, drop}
use Rattle.rules.specs.Behaviours.{due}
use Rattle.placement.specs.Misplaced.{misplaced_in}
use Rattle.placement.specs.Read.{code_of}
use Rattle.placement.proofs.Code.misplaced.Given as goal

abbrev pub invariant-loop-t : goal.invariant-loop-t
invariant-loop-t l =
    let code = code_of l.self in record {
      parts : l.left ≡ due 0 (take l.t code);
      gives : misplaced_in code 0 l.first code ≡ misplaced_in code l.t (l.first + l.t) (drop l.t code);
    }
