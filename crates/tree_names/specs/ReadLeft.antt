-- What a loop that reads a list has come to, by what is left of it and what is made.
use Rattle.std.specs.Prelude.{List, [], ◌∷◌}
use Rattle.comp_model.specs.Core.{Id}
use Rattle.comp_model.specs.CoreModules.{CoreModule}
use Rattle.comp_model.specs.Model.{Leaves, ◌▸◌, Nodes, one_node}
use Rattle.comp_scopes.specs.Encoding.{Encoding}
use Rattle.comp_tables.specs.Built.{missing, missing_nodes}
use Rattle.wast_tokens.specs.declared.error.Error.{Error}
use Rattle.comp_tree.specs.declared.tree.Leaf.{Leaf}
use Rattle.comp_tree.specs.declared.tree.Node.{Node}
use Rattle.comp_tree.specs.Lists.{listed, nodes_listed, node_of}
use Rattle.comp_tree.specs.Model.{leaf_of}
use Rattle.open_scopes.specs.declared.scopes.Open.{Open}
use Rattle.open_scopes.specs.declared.registry.Registry.{Registry}
use Rattle.tree_names.specs.declared.reading.Reading.{Reading}
use Rattle.tree_names.specs.Counted.{Refused}
use Rattle.tree_names.specs.Cases.{CasesHold}
use Rattle.tree_names.specs.Read.{LeavesRead, NodesRead}

module _ (C : List CoreModule) where
  abbrev pub listed_before : List Leaf → Leaves → Leaves
  listed_before [] rs = rs
  listed_before (x ∷ xs) rs = leaf_of C x ▸ listed_before xs rs

  abbrev pub nodes_before : List Node → Nodes → Nodes
  nodes_before [] rs = rs
  nodes_before (n ∷ ns) rs = one_node (node_of C n) (nodes_before ns rs)

pub record LeavesToRead (e : Encoding) (C : List CoreModule) (os : List Open) (first now : Reading) (xs rest made : List Leaf) : Type 0 where
  pub done : (end : Reading) (rs : Leaves) → LeavesRead e os now end (listed C rest) rs → LeavesRead e os first end (listed C xs) (listed_before C made rs)
  pub refused : (x : Error) → Refused os (λ ms. missing e ms (listed C rest)) x → Refused os (λ ms. missing e ms (listed C xs)) x

pub record NodesToRead (e : Encoding) (C : List CoreModule) (os : List Open) (cases : Registry) (first now : Reading) (xs rest made : List Node) : Type 0 where
  pub earlier : List Id
  pub holds : CasesHold cases earlier
  pub done : (end : Reading) (rs : Nodes) → NodesRead e os earlier now end (nodes_listed C rest) rs → NodesRead e os [] first end (nodes_listed C xs) (nodes_before C made rs)
  pub refused : (x : Error) → Refused os (λ ms. missing_nodes e ms earlier (nodes_listed C rest)) x → Refused os (λ ms. missing_nodes e ms [] (nodes_listed C xs)) x
