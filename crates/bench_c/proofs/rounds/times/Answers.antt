-- `times` counts the rounds in which a test holds that says the same each time. Assumes nothing.
use native.Mathlib.Omega.{arith}
use Rattle.bench_c.proofs.Laws.{said_first, said_more, said_same, said_last}
use Rattle.bench_c.proofs.rounds.times.Goals as goal
use Rattle.bench_c.proofs.rounds.times.Goals.{then-test, else-test}

pub rounds-init : goal.rounds-init
rounds-init g c = (omega arith, λ b h. said_first)

pub rounds-preserved : goal.rounds-preserved
rounds-preserved g c =
    elim c.if-test.branch [
      | then-test w ↦ rw w.said-is (omega (arith, c.rounds.invariant.0), λ b h. said_more (c.rounds.invariant.1 b h) (h _ c.test.ensures) c.rounds-test.true w.if-test.true)
      | else-test w ↦ rw w.said-is (omega (arith, c.rounds.invariant.0), λ b h. said_same (c.rounds.invariant.1 b h) (h _ c.test.ensures) c.rounds-test.true w.if-test.false)
    ]

pub returns : goal.returns
returns g c = λ b h. said_last (c.rounds.invariant.1 b h) c.rounds-test.false
