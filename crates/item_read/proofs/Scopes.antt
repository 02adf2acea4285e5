-- A definition that holds a scope, by the list of its definitions.
use Rattle.std.proofs.Common.{◌≡◌, ℕ, zero, suc, ◌≤◌, ◌<◌, refl, sym, ap, ◌∙◌, subst, arith, List, [], ◌∷◌, ◌++◌, map, length, drop, drop_of_length-le, append-nil, get_or, None, Bor}
use Rattle.comp_model.specs.Model as m
use Rattle.comp_model.specs.Model.{Node as Row, define, no_names, Defs, no_def, one_def, kind_of, no_leaf, ◌▸◌}
use Rattle.wire_tree.specs.Lists as w
use Rattle.wire_tree.specs.Lists.{listed, node_of}
use Rattle.wire_tree.specs.Model.{leaf_of, scope_of}
use Rattle.wire_tree.specs.declared.tree.Leaf as l
use Rattle.wire_tree.specs.declared.tree.Leaf.{Leaf}
use Rattle.wire_tree.specs.declared.tree.Node.{Node}
use Rattle.wire_tree.specs.declared.tree.Scope.{Scope, out-Scope}
use Rattle.wire_tree.proofs.Leaves.{leaf_scope, scope_fields}
use Rattle.item_tree.specs.declared.tree.Item.{Item}
use Rattle.item_tree.specs.declared.tree.Tree.{Tree}
use Rattle.item_tree.specs.Model.{item_row, defs_listed, scope_of_tree}
use Rattle.item_read.specs.Scopes.{IsDefinition, AreDefinitions, HoldsOne, ScopeFits, held_kind}
use Rattle.item_read.proofs.ByLength.{one_leaf}
use Rattle.item_read.proofs.DefinitionFits.{all_definitions}

-- the definitions of a scope that is read, as those of a tree
pub tree_stands : (x : Scope) (ds : List Item) → defs_listed ds ≡ w.defs_listed (out-Scope x).defs.now → scope_of_tree (kind_of (scope_of x)) (record { defs = ds }) ≡ scope_of x
tree_stands x ds e =
    ap (λ k. m.scope_of k None None (defs_listed ds)) (ap kind_of (scope_fields x))
    ∙ ap (m.scope_of (out-Scope x).kind None None) e
    ∙ sym (scope_fields x)

-- the definitions of a scope that fits the table
pub scope_definitions : (x : Scope) → ScopeFits (scope_of x) → AreDefinitions (w.defs_listed (out-Scope x).defs.now)
scope_definitions x h = all_definitions (m.scope_of (out-Scope x).kind None None (w.defs_listed (out-Scope x).defs.now)) (subst ScopeFits (scope_fields x) h)

module _ (n : Node) (d : Leaf) (x : Bor Scope) (e : get_or n.leaves.now 0 d ≡ l.Scope x) (h : HoldsOne (node_of n)) where
  -- the one leaf of a definition that holds a scope
  pub held_scope : listed n.leaves.now ≡ m.scope (scope_of x.now) ▸ no_leaf
  held_scope = one_leaf d n.leaves.now h.1 ∙ ap (λ y. leaf_of y ▸ no_leaf) e ∙ ap (λ y. y ▸ no_leaf) (leaf_scope x)

  scope_at : HoldsOne (m.row n.row (m.scope (scope_of x.now) ▸ no_leaf))
  scope_at = subst (λ ls. HoldsOne (m.row n.row ls)) held_scope h

  pub scope_fits : ScopeFits (scope_of x.now)
  scope_fits = scope_at.2.1

  pub holder_row : (v : Row) (t : Tree) → v ≡ m.row n.row (m.scope (scope_of_tree (held_kind n.row) t) ▸ no_leaf) → scope_of_tree (kind_of (scope_of x.now)) t ≡ scope_of x.now → v ≡ node_of n
  holder_row v t f g =
      f ∙ ap (λ k. m.row n.row (m.scope (scope_of_tree k t) ▸ no_leaf)) (sym scope_at.2.0)
      ∙ ap (λ s. m.row n.row (m.scope s ▸ no_leaf)) g
      ∙ ap (m.row n.row) (sym held_scope)

-- one of a list of definitions
pub one_definition : (d : Node) (ns : List Node) (i : ℕ) → AreDefinitions (w.defs_listed ns) → i < length ns → IsDefinition (node_of (get_or ns i d))
one_definition d [] i h lt = absurd (omega (arith, lt))
one_definition d (n ∷ ns) zero h lt = h.0
one_definition d (n ∷ ns) (suc i) h lt = one_definition d ns i h.1 (omega (arith, lt))

-- rows of definitions, one for each node
defs : List Row → Defs
defs [] = no_def
defs (n ∷ ns) = one_def (define no_names n) (defs ns)

items_mapped : (xs : List Item) → defs_listed xs ≡ defs (map item_row xs)
unfolding defs
items_mapped [] = refl
items_mapped (x ∷ xs) = ap (one_def (define no_names (item_row x))) (items_mapped xs)

nodes_mapped : (ns : List Node) → w.defs_listed ns ≡ defs (map node_of ns)
unfolding defs
nodes_mapped [] = refl
nodes_mapped (n ∷ ns) = ap (one_def (define no_names (node_of n))) (nodes_mapped ns)

pub all_items : (xs : List Item) (ns : List Node) (i : ℕ) → length ns ≤ i → map item_row xs ++ map node_of (drop i ns) ≡ map node_of ns → defs_listed xs ≡ w.defs_listed ns
all_items xs ns i h e =
    items_mapped xs
    ∙ ap defs (sym (append-nil (map item_row xs)) ∙ ap (λ q. map item_row xs ++ map node_of q) (sym (drop_of_length-le ns h)) ∙ e)
    ∙ sym (nodes_mapped ns)
