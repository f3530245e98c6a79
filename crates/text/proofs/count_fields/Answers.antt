-- `count_fields` counts the parts that the library's `split` gives. Assumes nothing.
use mathlib.Core.Path.{ap, ◌∙◌}
use mathlib.Core.List.{List}
use Prim.Native.Nat.{ℕ}
use lib.ListN.{length}
use Rattle.std.proofs.Common.{eqb, rules, tests}
use Rattle.std.proofs.lemmas.Iterator.Consumers.{count_from_yields_List}
use Rattle.std.proofs.lemmas.Iterator.Splits.{YieldsList-from_slice_split}
use Rattle.text.proofs.Fields.{fields_lem}
use Rattle.text.proofs.count_fields.Goals as goal

pub returns : goal.returns
returns c =
    let s = c.split.ensures in
    count_from_yields_List c.split.result _ c.count.ensures.ran
    (YieldsList-from_slice_split _ (λ b. eqb b 44) c.args.line.now s.rest s.done s.closure (λ x r q k. search (rules, tests)))
    ∙ ap (λ (l : List (List ℕ)). length l) (fields_lem c.args.line.now)
