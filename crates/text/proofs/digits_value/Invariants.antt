-- `digits_value` gives the value of digits, held at the ceiling. The invariant: n and the digits from the index on give it. Assumes nothing.
use mathlib.Core.Bool.{cond}
use mathlib.Core.Path.{◌≡◌}
use Prim.Native.Nat.{◌≤◌, min}
use lib.ListN.{drop}
use Rattle.std.specs.Prelude.{Some, None}
use Rattle.node.specs.Lists.{all_of}
use Rattle.text.specs.Numbers.{is_digit, decimal, ceiling, natural_of}
use Rattle.text.proofs.digits_value.Given as goal

abbrev pub invariant-loop-b : goal.invariant-loop-b
invariant-loop-b l =
    (l.n ≤ ceiling)
    × (cond (all_of is_digit (drop l.b-index l.s)) (Some (min (decimal l.n (drop l.b-index l.s)) ceiling)) None ≡ natural_of (all_of is_digit l.s) l.s)
