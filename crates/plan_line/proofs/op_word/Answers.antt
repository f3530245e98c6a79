-- `op_word` gives the number of an op's word. Assumes nothing.
use mathlib.Core.List.{[], map}
use mathlib.Core.Path.{ap, ◌∙◌}
use Prim.Native.Nat.{ℕ}
use native.Mathlib.Omega.{arith}
use lib.ListN.{get_or, get_or-map}
use Rattle.std.specs.Prelude.{Option}
use Rattle.std.specs.Option.{unwrap_or}
use Rattle.std.specs.Slice.{IsItemAt}
use Rattle.node.specs.Ops.{op_words}
use Rattle.words.specs.Words.{packed}
use Rattle.plan_line.proofs.op_word.Goals as goal

pub returns : goal.returns
unfolding packed
returns c =
    let item : IsItemAt (map packed op_words) c.from.result c.get.result = c.get.ensures.lookup in
    c.unwrap_or.ensures
    ∙ ap (λ (o : Option ℕ). unwrap_or o 1) c.copied.ensures
    ∙ item.4 (omega arith) 1
    ∙ get_or-map packed op_words c.from.result []
    ∙ ap (λ (k : ℕ). packed (get_or op_words k [])) c.from.ensures
