-- Where a scope stands in a definition, or in an inline node or a bundle, nothing else does: so it is in the table of rows.
use Rattle.std.specs.Prelude.{◌≡◌, false, ⊤}
use Rattle.comp_model.specs.Model.{Leaf, ref, present, node, nodes, scope, inline, bundle, Leaves, no_leaf, ◌▸◌, row, Nodes, no_node, one_node, define, Defs, no_def, one_def, Scope, scope_of}
use Rattle.comp_scopes.specs.Rowed.{holds_scope}

-- a scope and nothing else, or none
abbrev pub Sole : Leaves → Type 0
Sole (scope s ▸ no_leaf) = ⊤
Sole ls = holds_scope ls ≡ false

abbrev mutual
  -- in what stands in leaves
  pub LeavesAlone : Leaves → Type 0
  LeavesAlone no_leaf = ⊤
  LeavesAlone (l ▸ ls) = LeafAlone l × LeavesAlone ls

  pub LeafAlone : Leaf → Type 0
  LeafAlone (ref s (inline (row t ls))) = Sole ls × LeavesAlone ls
  LeafAlone (ref s (bundle (row t ls))) = Sole ls × LeavesAlone ls
  LeafAlone (present l) = LeafAlone l
  LeafAlone (node (row t ls)) = LeavesAlone ls
  LeafAlone (nodes ns) = NodesAlone ns
  LeafAlone (scope (scope_of kind id label ds)) = DefsAlone ds
  LeafAlone _ = ⊤

  pub NodesAlone : Nodes → Type 0
  NodesAlone no_node = ⊤
  NodesAlone (one_node (row t ls) ns) = LeavesAlone ls × NodesAlone ns

  pub DefsAlone : Defs → Type 0
  DefsAlone no_def = ⊤
  DefsAlone (one_def (define names (row t ls)) ds) = (Sole ls × LeavesAlone ls) × DefsAlone ds

-- of a whole scope
abbrev pub ScopesAlone : Scope → Type 0
ScopesAlone (scope_of kind id label ds) = DefsAlone ds
