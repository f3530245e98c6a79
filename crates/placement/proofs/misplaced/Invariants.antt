-- `misplaced` walks the behaviours. The loop keeps that those that are left give the answer. Assumes nothing.
use mathlib.Core.Path.{◌≡◌}
use Prim.Native.Nat.{◌≤◌, ◌+◌, ◌*◌}
use lib.ListN.{drop}
use Rattle.behaviours.specs.Codes.{codes_in}
use Rattle.placement.specs.Misplaced.{first_code, misplaced_from}
use Rattle.placement.proofs.misplaced.Given as goal

abbrev pub invariant-loop-k : goal.invariant-loop-k
invariant-loop-k l =
    let codes = codes_in l.count l.lens l.ops in record {
      near : l.line ≤ 3 + l.k * 256;
      gives : misplaced_from first_code codes ≡ misplaced_from l.line (drop l.k codes);
    }
