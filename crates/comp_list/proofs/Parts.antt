-- Leaves that hold parts: their references, and the lines of the scopes in them.
use Rattle.std.proofs.Common.{◌≡◌, ℕ, ◌+◌, ◌<◌, ap, ◌∙◌, subst, List, ◌∷◌, length, drop, get_or, Bor}
use Rattle.std.proofs.lemmas.List.{drop_more}
use Rattle.comp_model.specs.Model.{Defs}
use Rattle.wire_tree.specs.Lists.{listed, nodes_listed, defs_listed}
use Rattle.wire_tree.specs.Model.{leaf_of, scope_of}
use Rattle.wire_tree.specs.declared.tree.Leaf as l
use Rattle.wire_tree.specs.declared.tree.Node.{Node}
use Rattle.wire_tree.specs.declared.tree.Scope.{Scope, out-Scope}
use Rattle.wire_tree.proofs.Leaves.{leaf_present, leaf_node, leaf_nodes, leaf_scope, scope_fields}
use Rattle.comp_list.specs.References.{references, leaf_references, node_references}
use Rattle.comp_list.specs.Listing.{leaf_lines, leaves_lines, nodes_lines, scope_lines, defs_lines}
use Rattle.comp_list.specs.Room.{ScopeFits, DefsFit, LeafFits, LeavesFit, NodesFit}
use Rattle.comp_list.proofs.DefSpots.{drop_item}

pub node_found : (x : l.Leaf) (n : Bor Node) → x ≡ l.Node n → leaf_references (leaf_of x) ≡ references (listed n.now.leaves.now)
node_found x n e = ap (λ y. leaf_references (leaf_of y)) e ∙ ap leaf_references (leaf_node n)

pub nodes_found : (x : l.Leaf) (ns : Bor (List Node)) → x ≡ l.Nodes ns → leaf_references (leaf_of x) ≡ node_references (nodes_listed ns.now)
nodes_found x ns e = ap (λ y. leaf_references (leaf_of y)) e ∙ ap leaf_references (leaf_nodes ns)

module _ (level : ℕ) (out : List Defs) where
  pub node_lines : (x : l.Leaf) (n : Bor Node) → x ≡ l.Node n → leaf_lines (leaf_of x) level out ≡ leaves_lines (listed n.now.leaves.now) level out
  node_lines x n e = ap (λ y. leaf_lines (leaf_of y) level out) e ∙ ap (λ y. leaf_lines y level out) (leaf_node n)

  pub list_lines : (x : l.Leaf) (ns : Bor (List Node)) → x ≡ l.Nodes ns → leaf_lines (leaf_of x) level out ≡ nodes_lines (nodes_listed ns.now) level out
  list_lines x ns e = ap (λ y. leaf_lines (leaf_of y) level out) e ∙ ap (λ y. leaf_lines y level out) (leaf_nodes ns)

  pub scope_inside : (x : Scope) → scope_lines (scope_of x) level out ≡ defs_lines (defs_listed (out-Scope x).defs.now) level (◌∷◌ (defs_listed (out-Scope x).defs.now) out) 0
  scope_inside x = ap (λ s. scope_lines s level out) (scope_fields x)

-- the numbers of the scopes in a leaf have room where the leaf's have
module _ (level : ℕ) where
  pub present_fits : (x : l.Leaf) (y : Bor l.Leaf) → x ≡ l.Present y → LeafFits (leaf_of x) level → LeafFits (leaf_of y.now) level
  present_fits x y e h = subst (λ z. LeafFits z level) (ap leaf_of e ∙ leaf_present y) h

  pub node_fits : (x : l.Leaf) (n : Bor Node) → x ≡ l.Node n → LeafFits (leaf_of x) level → LeavesFit (listed n.now.leaves.now) level
  node_fits x n e h = subst (λ z. LeafFits z level) (ap leaf_of e ∙ leaf_node n) h

  pub list_fits : (x : l.Leaf) (ns : Bor (List Node)) → x ≡ l.Nodes ns → LeafFits (leaf_of x) level → NodesFit (nodes_listed ns.now) level
  list_fits x ns e h = subst (λ z. LeafFits z level) (ap leaf_of e ∙ leaf_nodes ns) h

  pub scope_fits : (x : l.Leaf) (s : Bor Scope) → x ≡ l.Scope s → LeafFits (leaf_of x) level → ScopeFits (scope_of s.now) level
  scope_fits x s e h = subst (λ z. LeafFits z level) (ap leaf_of e ∙ leaf_scope s) h

  pub defs_fit : (x : Scope) → ScopeFits (scope_of x) level → DefsFit (defs_listed (out-Scope x).defs.now) level 0
  defs_fit x h = subst (λ s. ScopeFits s level) (scope_fields x) h

  -- turns of the loops
  pub leaves_from : (xs : List l.Leaf) (i : ℕ) (x : l.Leaf) → i < length xs → x ≡ get_or xs i x → LeavesFit (listed (drop i xs)) level
      → LeafFits (leaf_of x) level × LeavesFit (listed (drop (i + 1) xs)) level
  leaves_from xs i x h is f = subst (λ q. LeavesFit (listed q) level) (drop_item xs i x h is) f

  pub nodes_from : (xs : List Node) (i : ℕ) (d : Node) → i < length xs → NodesFit (nodes_listed (drop i xs)) level
      → LeavesFit (listed (get_or xs i d).leaves.now) level × NodesFit (nodes_listed (drop (i + 1) xs)) level
  nodes_from xs i d h f = subst (λ q. NodesFit (nodes_listed q) level) (drop_more xs i d h) f
