-- What the exported calls answer: one number, since a C caller takes no record.
--   exported x          the length that x tells, or the largest usize where x tells a refusal, which can only be 30
--   unsound             the usize below the largest
--   exported_written x   the length that x tells, the largest usize where x tells 30, or the one below it where x tells 31
--   rewritten x y old   the number that is told where the behaviours of the load x are written with the starts of the load y into the buffer
--                       `old`: 0 where a load is refused;  rewritten_shown x y old  the buffer behind it
--   reached_by x s       the node behind a play of the read steps s on the load x; none where one of the texts is refused
--   reached_of r         what an answer of the code on it stands for: its `Option` is another type than the one that is computed with here
--   of_reached f o       what f tells of the node that is reached, or the largest usize where none is
--   exported_offer x     the number of the step that x suggests, 0 where it suggests none, or the largest usize where x is refused
--   offered x s         the number that is told of a suggestion on the node that is reached
--   exported_count x     the number that x tells, or the largest usize where it tells none or is refused
--   counted x s i       the number that is told of the clauses that a search of the mailbox of process i of that node consults
use Rattle.std.specs.Prelude.{Option as Maybe, None, Some}
use Rattle.std.specs.Prelude.{Bool, ◌&&◌, cond, List, ℕ, eqb}
use Rattle.std.proofs.Math.Option.{Option, none, some}
use Rattle.actions.specs.Numbers.{encode}
use Rattle.controller.specs.Program.{steps}
use Rattle.engine.specs.Answers.{recorded}
use Rattle.node.specs.declared.Node.{Node}
use Rattle.node.specs.declared.Step.{Step}
use Rattle.node.specs.Starts.{node_behaviours, node_starts, starts_in}
use Rattle.text.specs.Writing.{top}
use Rattle.plan.specs.Plans.{Loaded}
use Rattle.listing.specs.Answers.{Listed, output_short}
use Rattle.plan_writer.specs.Answers.{codes_of, write_told, write_shown}
use Rattle.rules.specs.Answers.{Answer, refused, done}
use Rattle.rules.specs.Consult.{consultation}
use Rattle.rules.specs.Steps.{play}
use Rattle.rules.specs.Suggest.{suggest}
use Rattle.schedule.specs.Reading.{Schedule}

unfoldable pub exported : Listed → ℕ
exported x = cond (eqb x.number 0) x.length top

abbrev pub unsound : ℕ
unsound = 18446744073709551614

unfoldable pub exported_written : Listed → ℕ
exported_written x = cond (eqb x.number 0) x.length (cond (eqb x.number output_short) top unsound)

abbrev pub both_loaded : Loaded → Loaded → Bool
both_loaded x y = eqb x.number 0 && eqb y.number 0

unfoldable pub rewritten : Loaded → Loaded → List ℕ → ℕ
rewritten x y old =
    cond (both_loaded x y) (exported_written (write_told (codes_of (node_behaviours x.node)) (starts_in (node_starts y.node)) old)) 0

unfoldable pub rewritten_shown : Loaded → Loaded → List ℕ → List ℕ
rewritten_shown x y old = cond (both_loaded x y) (write_shown (codes_of (node_behaviours x.node)) (starts_in (node_starts y.node)) old) old

unfoldable pub reached_by : Loaded → Schedule → Option Node
reached_by x s = cond (eqb x.number 0 && eqb s.number 0) (some (play x.node (steps s)).node) none

abbrev pub reached_of : Maybe Node → Option Node
reached_of None = none
reached_of (Some m) = some m

abbrev pub of_reached : (Node → ℕ) → Option Node → ℕ
of_reached f none = top
of_reached f (some m) = f m

abbrev pub exported_offer : Answer (Option Step) → ℕ
exported_offer (refused k) = top
exported_offer (done none) = 0
exported_offer (done (some s)) = encode s

unfoldable pub offered : Loaded → Schedule → ℕ
offered x s = of_reached (λ m. exported_offer (recorded (suggest m))) (reached_by x s)

abbrev pub exported_count : Answer (Option ℕ) → ℕ
exported_count (refused k) = top
exported_count (done none) = top
exported_count (done (some k)) = k

unfoldable pub counted : Loaded → Schedule → ℕ → ℕ
counted x s i = of_reached (λ m. exported_count (consultation m i)) (reached_by x s)
