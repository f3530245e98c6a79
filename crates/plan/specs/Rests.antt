-- How the code reads a text, and what that says of reading and of loading it.
--   left_of r       what is left of a text, as the code keeps it
--   refused_at e n  line n refused for e
--   at_line n r     what line n gave, its refusal with the number of the line
--   told f r l      what a result stands for: a refusal, or what f makes of what was read, and what is left
--   mapped f r      what is read, its result changed by f
--   coded_node c    the node of what a plan says, without mail and signals
--   read_told r     what the code's reading of a whole text says of its load
--   refused_number o refused_line o   the number and the line of a load that is refused by o; 0 where there is no refusal
--   loaded_told x   what a load tells by the code's answer
use Rattle.std.specs.Prelude.{ℕ, ◌+◌, Option, None, Some, Result, Ok, Err}
use Rattle.node.specs.declared.Node.{Node}
use Rattle.text.specs.Parts.{lines_of}
use Rattle.plan_line.specs.declared.fault.LineFault.{LineFault}
use Rattle.plan.specs.declared.fault.Refused.{Refused}
use Rattle.plan.specs.declared.Loaded.{Loaded as Answered}
use Rattle.plan.specs.declared.loading.Codes.{Codes}
use Rattle.plan.specs.declared.rest.Rest.{Rest}
use Rattle.plan.specs.Faults.{fault_number, fault_of}
use Rattle.plan.specs.Plans.{Loaded, refused_load, empty_node, remade}
use Rattle.plan.specs.Reading.{Left, Read, bad, good}

abbrev pub left_of : Rest → Left
left_of r = record { text = lines_of r.text.now; first = r.read + 1 }

abbrev pub refused_at : LineFault → ℕ → Refused
refused_at e n = record { fault = fault_of e; line = n }

abbrev pub at_line : {A : Type 0} → ℕ → Result A LineFault → Result A Refused
at_line n (Ok a) = Ok a
at_line n (Err e) = Err (refused_at e n)

abbrev pub told : {A B : Type 0} → (A → B) → Result A Refused → Left → Read B
told f (Ok a) l = good (f a) l
told f (Err e) l = bad (fault_number e.fault) e.line

unfoldable pub mapped : {A B : Type 0} → (A → B) → Read A → Read B
mapped f (bad k n) = bad k n
mapped f (good a l) = good (f a) l

abbrev pub coded_node : Codes → Node
coded_node c = let b = c.behaviours in remade empty_node b.count b.lens b.ops c.processes

abbrev pub read_told : Result Codes Refused → Loaded
read_told (Ok c) = record { number = 0; line = 0; node = coded_node c }
read_told (Err e) = refused_load (fault_number e.fault) e.line

abbrev pub refused_number : Option Refused → ℕ
refused_number None = 0
refused_number (Some e) = fault_number e.fault

abbrev pub refused_line : Option Refused → ℕ
refused_line None = 0
refused_line (Some e) = e.line

abbrev pub loaded_told : Answered → Loaded
loaded_told x = record { number = refused_number x.refused; line = refused_line x.refused; node = x.node }
