-- `of_sound` reads where the process stands, and searches its mailbox where that is at a recv. Assumes nothing.
use native.Mathlib.Omega.{arith}
use Rattle.rules.proofs.Commits.{number_of}
use Rattle.consult.proofs.Recvs.{told_below, told_above, told_none, told_count}
use Rattle.consult.proofs.of_sound.Goals as goal
use Rattle.consult.proofs.of_sound.Goals.{then-i-lt1-via-then-i-lt1, then-i-lt1-via-else-i-lt1+then-i-gt16}

pub returns-then-i-lt1 : goal.returns-then-i-lt1
returns-then-i-lt1 c = elim c.then-i-lt1.branch [
  | then-i-lt1-via-then-i-lt1 w ↦ told_below _ c.requires _ w.if-i-lt1.true
  | then-i-lt1-via-else-i-lt1+then-i-gt16 w ↦ told_above _ c.requires _ w.if-i-gt16.true
]

pub returns-then-not-awaits : goal.returns-then-not-awaits
returns-then-not-awaits c =
    told_none _ c.requires _ (number_of _ (omega (arith, c.if-i-lt1.false)) (omega (arith, c.if-i-gt16.false)))
    c.op_index-x.ensures.value c.behaviour_index.ensures.value c.awaits.ensures c.if-not-awaits.true

pub returns : goal.returns
returns c =
    told_count _ c.requires _ (number_of _ (omega (arith, c.if-i-lt1.false)) (omega (arith, c.if-i-gt16.false)))
    c.op_index-x.ensures.value c.behaviour_index.ensures.value c.awaits.ensures c.if-not-awaits.false c.search-s.ensures.count
