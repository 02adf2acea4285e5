-- What is asked of parts of a definition whose references become indices: they stand in an expanded list, hold no scope, and the roots of
-- their paths are there.
use Rattle.std.specs.Prelude.{◌≡◌, Bool, false, List, Option}
use Rattle.comp_model.specs.Model.{Leaf, Leaves, Nodes}
use Rattle.comp_scopes.specs.Rowed.{holds_scope, leaf_holds_scope, nodes_hold_scope}
use Rattle.comp_scopes.specs.Unmet.{Unmet}
use Rattle.comp_expanded.specs.IsExpanded.{LeafExpanded, LeavesExpanded, NodesExpanded}
use Rattle.comp_tables.specs.Tables.{Opened}
use Rattle.comp_tables.specs.Built.{missing_roots, missing_roots_leaf, missing_roots_nodes}
use Rattle.open_scopes.specs.declared.scopes.Open.{Open}
use Rattle.tree_names.specs.Rooted.{Rooted}

pub record Ready (os : List Open) (E : Type 0) (holds : Bool) (roots : List Opened → Option Unmet) : Type 0 where
  pub expanded : E
  pub whole : holds ≡ false
  pub rooted : Rooted os roots

abbrev pub LeafReady : List Open → Leaf → Type 0
LeafReady os l = Ready os (LeafExpanded l) (leaf_holds_scope l) (λ ms. missing_roots_leaf ms l)

abbrev pub LeavesReady : List Open → Leaves → Type 0
LeavesReady os ls = Ready os (LeavesExpanded ls) (holds_scope ls) (λ ms. missing_roots ms ls)

abbrev pub NodesReady : List Open → Nodes → Type 0
NodesReady os ns = Ready os (NodesExpanded ns) (nodes_hold_scope ns) (λ ms. missing_roots_nodes ms ns)
