-- `kind_word` gives the number of the word of a clause's kind. Assumes nothing.
use mathlib.Core.List.{[], map}
use mathlib.Core.Path.{ap, ◌∙◌}
use Prim.Native.Nat.{ℕ}
use native.Mathlib.Omega.{arith}
use lib.ListN.{get_or, get_or-map}
use Rattle.std.specs.Prelude.{Option}
use Rattle.std.specs.Option.{unwrap_or}
use Rattle.std.specs.Slice.{IsItemAt}
use Rattle.words.specs.Words.{packed}
use Rattle.plan_line.specs.Ops.{clause_words}
use Rattle.plan_line.proofs.kind_word.Goals as goal

pub returns : goal.returns
unfolding packed
returns c =
    let item : IsItemAt (map packed clause_words) c.from.result c.get.result = c.get.ensures.lookup in
    c.unwrap_or.ensures
    ∙ ap (λ (o : Option ℕ). unwrap_or o 1) c.copied.ensures
    ∙ item.4 (omega arith) 1
    ∙ get_or-map packed clause_words c.from.result []
    ∙ ap (λ (k : ℕ). packed (get_or clause_words k [])) (c.from.ensures ∙ c.saturating_sub.ensures)
