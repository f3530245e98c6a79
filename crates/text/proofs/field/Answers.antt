-- `field` gives the part of a number of those that the library's `split` gives. Assumes nothing.
use mathlib.Core.Path.{refl}
use Rattle.std.proofs.Common.{eqb, rules, tests}
use Rattle.std.proofs.lemmas.Iterator.Consumers.{nth_from_yields_List}
use Rattle.std.proofs.lemmas.Iterator.Splits.{YieldsList-from_slice_split}
use Rattle.std.specs.List.{slice_split}
use Rattle.text.proofs.Fields.{fields_lem, part_or}
use Rattle.text.proofs.field.Goals as goal

pub returns : goal.returns
returns c =
    let s = c.split.ensures in
    rw (c.unwrap_or.ensures, ← fields_lem c.args.line.now)
    (part_or (slice_split (λ b. eqb b 44) c.args.line.now) c.args.k _ _ (nth_from_yields_List c.nth.result c.nth.new.self c.args.k c.nth.ensures.ran
    (YieldsList-from_slice_split _ (λ b. eqb b 44) c.args.line.now s.rest s.done s.closure (λ x r q k. search (rules, tests)))) refl)
