-- `behaviours_sound` tests behaviour after behaviour. The loop keeps that those that are left give the answer. Assumes nothing.
use mathlib.Core.Path.{◌≡◌}
use lib.ListN.{drop}
use Rattle.node.specs.Lists.{all_of}
use Rattle.rules.specs.Behaviours.{code_sound}
use Rattle.behaviours.specs.Codes.{codes_in}
use Rattle.behaviours.proofs.behaviours_sound.Given as goal

abbrev pub invariant-loop-b : goal.invariant-loop-b
invariant-loop-b l =
    let codes = codes_in l.count l.lens l.ops in
    all_of (code_sound l.count) codes ≡ all_of (code_sound l.count) (drop l.b codes)
