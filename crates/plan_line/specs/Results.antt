-- What the code's answers stand for, case by case.
--   line_number e   the number that a plan's writer is told of a line: 11, 12 or 13
--   line_fault f    what is wrong with a line where a number or a value of it can't be read
--   line_told f r   what is told of a line: refused under its number, or what f makes of the result
--   fault_told f r  what is told of a part of a line: refused under 11 or 12, or what f makes of the result
--   kind_read x     a clause's kind with its value, as an operand that is read
--   start_read s    a start without a refusal
use Rattle.std.specs.Prelude.{ℕ, Result, Ok, Err}
use Rattle.node.specs.declared.Start.{Start as NodeStart}
use Rattle.node.specs.declared.Value.{Value}
use Rattle.rules.specs.Answers.{Answer, refused, done}
use Rattle.text.specs.declared.Fault.{Fault}
use Rattle.text.specs.declared.Fault.TheVariants as fault
use Rattle.text.specs.Numbers.{malformed, out_of_range}
use Rattle.text.specs.Results.{fault_number}
use Rattle.plan_line.specs.declared.fault.LineFault.{LineFault}
use Rattle.plan_line.specs.declared.fault.LineFault.TheVariants.{Malformed, OutOfRange, NotRising}
use Rattle.plan_line.specs.Lines.{Start, not_rising}
use Rattle.plan_line.specs.Ops.{ReadOperand}

abbrev pub line_number : LineFault → ℕ
line_number Malformed = malformed
line_number OutOfRange = out_of_range
line_number NotRising = not_rising

abbrev pub line_fault : Fault → LineFault
line_fault fault.Malformed = Malformed
line_fault fault.OutOfRange = OutOfRange

abbrev pub line_told : {A B : Type 0} → (A → B) → Result A LineFault → Answer B
line_told f (Ok a) = done (f a)
line_told f (Err e) = refused (line_number e)

abbrev pub fault_told : {A B : Type 0} → (A → B) → Result A Fault → Answer B
fault_told f (Ok a) = done (f a)
fault_told f (Err e) = refused (fault_number e)

abbrev pub kind_read : ℕ × Value → ReadOperand
kind_read x = record { refusal = 0; number = x.0; value = x.1 }

abbrev pub start_read : NodeStart → Start
start_read s = record { refusal = 0; process = s.process; behaviour = s.behaviour }
