-- What a plan is made of, in the arrays that hold it (document 02, M-103): behaviours, and a row of starts.
--   no_start            what is read past the starts
--   starts_in s         the starts of a row
--   row_of l            the row of the starts l, blank behind them
--   start_of i p        the start of process p, whose number is i
--   start_if stage s    the start s, where a process is live
--   row_with stage r s  the row r with the start s behind the others, where a process is live
--   live_from i ps      of processes, the first having number i, those that are live, rising, each with its behaviour
--   node_behaviours n   the behaviours of a node
--   node_starts n       its starts: "those of its processes that are live"
use Rattle.std.specs.Prelude.{List, [], ◌∷◌, ◌++◌, ℕ, ◌+◌, length, replicate, set}
use Rattle.std.proofs.lemmas.List.Edits.{sets}
use Rattle.node.specs.declared.Behaviours.{Behaviours}
use Rattle.node.specs.declared.Node.{Node}
use Rattle.node.specs.declared.Process.{Process}
use Rattle.node.specs.declared.Stage.{Stage}
use Rattle.node.specs.declared.Stage.TheVariants.{Unborn, Live, Closing, Gone}
use Rattle.node.specs.declared.Start.{Start}
use Rattle.node.specs.declared.Starts.{Starts}
use Rattle.node.specs.Lists.{firsts}

abbrev pub no_start : Start
no_start = record { process = record { 0 = 0 }; behaviour = record { 0 = 0 } }

abbrev pub starts_in : Starts → List Start
starts_in s = firsts no_start s.count s.list

abbrev pub row_of : List Start → Starts
row_of l = record { count = length l; list = sets (replicate 16 no_start) 0 l }

abbrev pub start_of : ℕ → Process → Start
start_of i p = record { process = record { 0 = i }; behaviour = p.behaviour }

abbrev pub start_if : Stage → Start → List Start
start_if Unborn s = []
start_if Live s = s ∷ []
start_if Closing s = []
start_if Gone s = []

abbrev pub row_with : Stage → Starts → Start → Starts
row_with Unborn r s = r
row_with Live r s = record { count = r.count + 1; list = set r.list r.count s }
row_with Closing r s = r
row_with Gone r s = r

abbrev pub live_from : ℕ → List Process → List Start
live_from i [] = []
live_from i (p ∷ ps) = start_if p.stage (start_of i p) ++ live_from (i + 1) ps

abbrev pub node_behaviours : Node → Behaviours
node_behaviours n = record { count = n.count; lens = n.lens; ops = n.ops }

unfoldable pub node_starts : Node → Starts
node_starts n = row_of (live_from 1 n.processes)
