-- `Node::blank` gives the blank node: its parts are those that its callees give. Assumes nothing.
use Rattle.node.specs.Nodes.{blank_node}
use Rattle.node.proofs.Node.blank.Goals as goal

pub returns : goal.returns
unfolding blank_node
returns c = cc
