-- `put_members` writes the members of a set. The invariant: what is left to write are the members from k + 1 on,
-- behind `comma` before the next one. Assumes nothing.
use lib.ListN.{drop}
use Rattle.rules.specs.Nodes.{set_of}
use Rattle.node.specs.Values.{numbers}
use Rattle.text.proofs.Writing.{Left}
use Rattle.listing_lines.specs.Lines.{members, with_commas}
use Rattle.listing_lines.proofs.Laws.{commaed}
use Rattle.listing_lines.proofs.put_members.Given as goal

abbrev pub invariant-loop-k : goal.invariant-loop-k
invariant-loop-k l = Left l.initial.out l.at (with_commas (members (set_of l.set) numbers)) l.out l.e (commaed l.comma (members (set_of l.set) (drop l.k numbers)))
