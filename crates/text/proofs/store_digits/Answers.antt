-- `store_digits` stores a number into as many bytes as it has digits, from its last digit on. The invariant: the digits in front are left.
-- Assumes nothing.
use native.Mathlib.Omega.{arith}
use Rattle.text.proofs.Stores.{front_all, front_few, front_more, front_end}
use Rattle.text.proofs.Digits.{digits_some}
use Rattle.text.proofs.store_digits.Goals as goal

pub loop-k-init : goal.loop-k-init
loop-k-init c = front_all _ _ c.requires

pub loop-k-preserved : goal.loop-k-preserved
loop-k-preserved c = front_more c.loop-k.invariant c.loop-k-test.true

pub overflow_cast-places-2 : goal.overflow_cast-places-2
overflow_cast-places-2 c = record { fits = omega (arith, front_few c.loop-k.invariant c.loop-k-test.false) }

pub overflow_add-places-2 : goal.overflow_add-places-2
overflow_add-places-2 c = record { fits = omega (arith, front_few c.loop-k.invariant c.loop-k-test.false) }

pub bounds-places-0 : goal.bounds-places-0
bounds-places-0 c = omega (arith, digits_some c.args.n, c.loop-k.invariant.same)

pub returns : goal.returns
returns c = front_end c.loop-k.invariant c.loop-k-test.false c.requires
