-- What a load tells by the code's answer. Assumes nothing.
--   fault_told      the number of a fault is not 0
--   refused_told accepted_told   what is told where the answer has a refusal, and where it has none
use mathlib.Core.Bool.{true, false}
use mathlib.Core.Path.{◌≡◌, refl}
use Rattle.std.specs.Prelude.{Option, None, Some, is_some}
use Rattle.plan.specs.declared.fault.Fault.{Fault}
use Rattle.plan.specs.declared.fault.Fault.TheVariants.{TooLong, Malformed, OutOfRange, NotRising, IllPlaced}
use Rattle.plan.specs.declared.fault.Refused.{Refused}
use Rattle.plan.specs.Faults.{fault_number}
use Rattle.plan.specs.Rests.{refused_number}

pub fault_told : (f : Fault) → fault_number f ≡ 0 → ⊥
fault_told TooLong e = cc
fault_told Malformed e = cc
fault_told OutOfRange e = cc
fault_told NotRising e = cc
fault_told IllPlaced e = cc

pub refused_told : (o : Option Refused) → is_some o ≡ true → refused_number o ≡ 0 → ⊥
refused_told None h e = cc
refused_told (Some r) h e = fault_told r.fault e

pub accepted_told : (o : Option Refused) → is_some o ≡ false → refused_number o ≡ 0
accepted_told None h = refl
accepted_told (Some r) h = cc
