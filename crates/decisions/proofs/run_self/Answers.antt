-- `run_self`: r becomes the own number. Assumes nothing.
use Rattle.decisions.proofs.run_self.Goals as goal

pub returns : goal.returns
returns c = rw (c.becomes.ensures, c.advanced.ensures, c.with_register.ensures)
