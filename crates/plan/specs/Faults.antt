-- Why a plan text is refused, in the words of the code and by document 01's numbers.
--   fault_number f   the number that a plan's writer is told: 10 to 14
--   fault_of e       what is wrong with a text of which a line is refused
use Rattle.std.specs.Prelude.{ℕ}
use Rattle.text.specs.Numbers.{malformed, out_of_range}
use Rattle.plan_line.specs.declared.fault.LineFault.{LineFault}
use Rattle.plan_line.specs.declared.fault.LineFault.TheVariants as line
use Rattle.plan_line.specs.Lines.{not_rising}
use Rattle.plan.specs.declared.fault.Fault.{Fault}
use Rattle.plan.specs.declared.fault.Fault.TheVariants.{TooLong, Malformed, OutOfRange, NotRising, IllPlaced}
use Rattle.plan.specs.Plans.{text_too_long, ill_placed}

abbrev pub fault_number : Fault → ℕ
fault_number TooLong = text_too_long
fault_number Malformed = malformed
fault_number OutOfRange = out_of_range
fault_number NotRising = not_rising
fault_number IllPlaced = ill_placed

abbrev pub fault_of : LineFault → Fault
fault_of line.Malformed = Malformed
fault_of line.OutOfRange = OutOfRange
fault_of line.NotRising = NotRising
