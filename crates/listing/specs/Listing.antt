-- The listing of a node (document 01, "Plan, steps and listing text"): "each process not unborn, rising, then pairs with signals, by from,
-- then to". It is a text of the view, so equal nodes have equal listings.
--   rows_text j rows       the signals in flight from j
--   listing_text v         the listing of document 01's node v
--   listing_of n           the listing of the record n
--   longest               no sound node has a longer listing
use Rattle.std.specs.Prelude.{List, ◌++◌, ℕ}
use Rattle.node.specs.declared.Node.{Node}
use Rattle.node.specs.declared.Signal.{Signal}
use Rattle.rules.specs.Nodes.{View, view}
use Rattle.listing_lines.specs.Lines.{each_from, standing_text, pair_text}

unfoldable pub rows_text : ℕ → List (List Signal) → List ℕ
rows_text j rows = each_from (pair_text j) 1 rows

unfoldable pub listing_text : View → List ℕ
listing_text v = each_from standing_text 1 v.processes ++ each_from rows_text 1 v.flight

unfoldable pub listing_of : Node → List ℕ
listing_of n = listing_text (view n)

-- 16 processes of at most 644 bytes and 256 pairs of at most 123: a buffer of this length holds the listing of every sound node
abbrev pub longest : ℕ
longest = 41792
