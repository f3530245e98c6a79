-- A node's text is its listing: the processes, and behind them the pairs. Assumes nothing.
use Rattle.text.proofs.Writing.{◌▸◌}
use Rattle.listing.specs.Listing.{listing_of, listing_text}
use Rattle.listing.proofs.NodeText.put.Goals as goal

pub returns : goal.returns
unfolding listing_of listing_text
returns c = c.put_processes-e.ensures ▸ c.put_pairs.ensures
