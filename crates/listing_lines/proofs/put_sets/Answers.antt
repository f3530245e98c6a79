-- `put_sets` writes the three sets of a live process. Assumes nothing.
use Rattle.text.proofs.Writing.{wrote_length, ◌▸◌}
use Rattle.listing_lines.specs.Lines.{set_lines}
use Rattle.listing_lines.proofs.put_sets.Goals as goal

pub returns : goal.returns
unfolding set_lines
returns c =
    c.put_set-e.ensures ▸ c.put_set-e-2.ensures ▸ c.put_set.ensures

pub shape_of-out : goal.shape_of-out
shape_of-out c = wrote_length (returns c)
