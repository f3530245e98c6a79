-- `Kinds::takes` reads the digit of the message's kind. Assumes nothing.
use Rattle.receive.proofs.KindSets.{takes_at}
use Rattle.receive.proofs.Kinds.takes.Goals as goal

pub returns : goal.returns
returns c =
    let a = c.args in
    takes_at a.self a.m c.kind.ensures
