-- What a leaf that holds nodes is in the model.
use Rattle.std.proofs.Common.{◌≡◌, ap, ◌∙◌, List, Bor, subst, Result, Ok, Err, IfOk}
use Rattle.std.specs.declared.alloc.AllocError.{AllocError}
use Rattle.comp_model.specs.Model as m
use Rattle.wire_tree.specs.Lists.{node_of, nodes_listed}
use Rattle.wire_tree.specs.Model.{leaf_of}
use Rattle.wire_tree.specs.declared.tree.Leaf as l
use Rattle.wire_tree.specs.declared.tree.Node.{Node}
use Rattle.wire_tree.proofs.Leaves.{leaf_node, leaf_nodes}
use Rattle.item_read.specs.Leaves.{IsRow, IsList, Each}

pub node_held : (x : l.Leaf) (n : Bor Node) → x ≡ l.Node n → leaf_of x ≡ m.node (node_of n.now)
node_held x n e = ap leaf_of e ∙ leaf_node n

pub nodes_held : (x : l.Leaf) (ns : Bor (List Node)) → x ≡ l.Nodes ns → leaf_of x ≡ m.nodes (nodes_listed ns.now)
nodes_held x ns e = ap leaf_of e ∙ leaf_nodes ns

module _ (P : m.Node → Type 0) where
  pub row_held : (x : l.Leaf) (n : Bor Node) → x ≡ l.Node n → IsRow P (leaf_of x) → P (node_of n.now)
  row_held x n e h = subst (IsRow P) (node_held x n e) h

  pub list_held : (x : l.Leaf) (ns : Bor (List Node)) → x ≡ l.Nodes ns → IsList P (leaf_of x) → Each P (nodes_listed ns.now)
  list_held x ns e h = subst (IsList P) (nodes_held x ns e) h

pub weaken : {B : Type 0} (P Q : B → Type 0) (r : Result B AllocError) → ((y : B) → P y → Q y) → IfOk r P → IfOk r Q
weaken P Q (Ok y) f h = f y h
weaken P Q (Err e) f h = tt
