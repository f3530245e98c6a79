-- `put_firsts` writes the texts of the first places. The invariant: those from place k on are left. Assumes nothing.
use lib.ListN.{drop}
use Rattle.node.specs.Lists.{firsts}
use Rattle.text.proofs.Writing.{Left}
use Rattle.text.specs.Writing.{each}
use Rattle.listing.proofs.put_firsts.Given as goal

abbrev pub invariant-loop-k : goal.invariant-loop-k
invariant-loop-k g l =
    Left l.initial.out l.at (each g.T.Text.text (firsts l.blank l.count l.places)) l.out l.e (each g.T.Text.text (drop l.k (firsts l.blank l.count l.places)))
