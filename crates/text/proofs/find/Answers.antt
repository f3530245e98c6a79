-- `find` gives the first place of a byte. The invariant: the bytes from k on give the place. Assumes nothing.
use Rattle.text.proofs.Parts.{place_hit, place_miss, place_none}
use Rattle.text.proofs.find.Goals as goal

pub returns-then-s-k : goal.returns-then-s-k
returns-then-s-k c = place_hit _ _ _ _ c.loop-k.invariant c.loop-k-test.true c.if-s-k.true

pub loop-k-preserved : goal.loop-k-preserved
loop-k-preserved c = place_miss _ _ _ _ c.loop-k.invariant c.loop-k-test.true c.if-s-k.false

pub returns : goal.returns
returns c = place_none _ _ _ _ c.loop-k.invariant c.loop-k-test.false
