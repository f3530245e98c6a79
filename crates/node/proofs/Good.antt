-- What a record tells by its type: how long its arrays are, and that its counts and places are bytes. Assumes nothing.
use mathlib.Core.List.{List}
use mathlib.Core.Path.{◌≡◌}
use denote.Shadow.{shadow}
use denote.Struct.Declared.{row}
use lib.ListN.{length}
use mir.Val.{Val}
use Rattle.node.specs.declared.Node.{Node}
use Rattle.node.specs.contracts.Node.{the_type as node-type}

pub record SizedNode (n : Node) : Type 0 where
  pub lens : length n.lens ≡ 8
  pub ops : length n.ops ≡ 256
  pub processes : length n.processes ≡ 16
  pub waiting : length n.waiting ≡ 16
  pub slots : length n.slots ≡ 256
  pub counts : length n.counts ≡ 256
  pub cells : length n.cells ≡ 1024

pub sized_node : (n : Node) {vs : List Val} → shadow ((row node-type).own_val n vs) → SizedNode n
sized_node n g = record {
  lens = g.1.1.1.0.1.0.1;
  ops = g.1.1.1.1.0.1.0.1;
  processes = g.1.1.1.1.1.0.1.0.1;
  waiting = g.1.1.1.1.1.1.0.1.0.1;
  slots = g.1.1.1.1.1.1.1.0.1.0.1;
  counts = g.1.1.1.1.1.1.1.1.0.1.0.1;
  cells = g.1.1.1.1.1.1.1.1.1.0.1.0.1;
}
