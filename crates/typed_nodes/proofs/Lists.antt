-- Nodes, one list behind the other.
use Rattle.comp_model.specs.Model.{Nodes, no_node, one_node}

abbrev pub nodes_behind : Nodes → Nodes → Nodes
nodes_behind no_node rest = rest
nodes_behind (one_node n ns) rest = one_node n (nodes_behind ns rest)
