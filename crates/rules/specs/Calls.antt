-- Lists of steps and plays (document 01, demand 3: "two lists of any length"; "a play stands in a list for the steps it accepted").
--   Call              a single step, or a play
--   after n l         the node after a list of calls; a refused step leaves the node and the list goes on
--   accepted n l      the steps that are accepted in the list, in their order
--   accepted_by i n l  the accepted steps of the list that process i owns
use Rattle.std.specs.Prelude.{List, [], ◌∷◌, ◌++◌, ℕ, take}
use Rattle.node.specs.declared.Node.{Node}
use Rattle.rules.specs.Answers.{Answer, refused, done}
use Rattle.rules.specs.Steps.{Action, owner, step, play}
use Rattle.rules.specs.Traces.{owned}

pub data Call : Type 0 where
  single : Action → Call
  schedule : List Action → Call

-- "A refused step leaves the node unchanged"
abbrev pub node_behind : Node → Answer Node → Node
node_behind n (refused k) = n
node_behind n (done m) = m

abbrev pub if_accepted : Answer Node → Action → List Action
if_accepted (refused k) a = []
if_accepted (done m) a = a ∷ []

unfoldable pub call_node : Node → Call → Node
call_node n (single a) = node_behind n (step n a)
call_node n (schedule l) = (play n l).node

unfoldable pub call_steps : Node → Call → List Action
call_steps n (single a) = if_accepted (step n a) a
call_steps n (schedule l) = take (play n l).accepted l

unfoldable pub after : Node → List Call → Node
after n [] = n
after n (c ∷ cs) = after (call_node n c) cs

unfoldable pub accepted : Node → List Call → List Action
accepted n [] = []
accepted n (c ∷ cs) = call_steps n c ++ accepted (call_node n c) cs

abbrev pub accepted_by : ℕ → Node → List Call → List Action
accepted_by i n cs = owned owner i (accepted n cs)
