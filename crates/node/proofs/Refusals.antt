-- A refusal has a number above 0, and only a refusal has. Assumes nothing.
use mathlib.Core.Path.{◌≡◌, refl}
use native.Mathlib.Omega.{arith}
use Rattle.std.specs.Prelude.{Option, Some, None}
use Rattle.node.specs.declared.Refusal.{Refusal}
use Rattle.node.specs.declared.Refusal.TheVariants.{BadNumber, OwnerUnborn, OwnerGone, NoneInFlight, MailboxFull, MailboxEmpty, PairFull, NotUnborn, NoTimeout, NoFit, OutputShort, NotSound, ScheduleTooLong}
use Rattle.node.specs.Refusals.{refusal_number, refusal_told}

pub above_zero : (r : Refusal) → refusal_number r ≡ 0 → ⊥
above_zero BadNumber h = omega (arith, h)
above_zero OwnerUnborn h = omega (arith, h)
above_zero OwnerGone h = omega (arith, h)
above_zero NoneInFlight h = omega (arith, h)
above_zero MailboxFull h = omega (arith, h)
above_zero MailboxEmpty h = omega (arith, h)
above_zero PairFull h = omega (arith, h)
above_zero NotUnborn h = omega (arith, h)
above_zero NoTimeout h = omega (arith, h)
above_zero NoFit h = omega (arith, h)
above_zero OutputShort h = omega (arith, h)
above_zero NotSound h = omega (arith, h)
above_zero ScheduleTooLong h = omega (arith, h)

pub none_told : (o : Option Refusal) → ((r : Refusal) → o ≡ Some r → ⊥) → refusal_told o ≡ 0
none_told None h = refl
none_told (Some r) h = absurd (h r refl)
