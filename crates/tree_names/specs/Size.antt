-- How large a scope is: one for each scope, definition, node and leaf in it, each step of a path, each inline export and each result of a
-- start function.
use Rattle.std.specs.Prelude.{ℕ, ◌+◌, length}
use Rattle.comp_model.specs.Model.{Leaf, ref, present, node, nodes, result_ids, result_count, scope, path, inline, bundle, Leaves, no_leaf, ◌▸◌, row, Nodes, no_node, one_node, define, Defs, no_def, one_def, Scope, scope_of}
use Rattle.comp_scopes.specs.References.{steps}

abbrev mutual
  pub size_of_leaf : Leaf → ℕ
  size_of_leaf (ref s (path p)) = 1 + steps p
  size_of_leaf (ref s (inline (row t ls))) = 2 + size_of_leaves ls
  size_of_leaf (ref s (bundle (row t ls))) = 2 + size_of_leaves ls
  size_of_leaf (present l) = 1 + size_of_leaf l
  size_of_leaf (node (row t ls)) = 1 + size_of_leaves ls
  size_of_leaf (nodes ns) = 1 + size_of_nodes ns
  size_of_leaf (result_ids ids) = 1 + length ids
  size_of_leaf (result_count n) = 1 + n
  size_of_leaf (scope s) = 1 + size_of_scope s
  size_of_leaf _ = 1

  pub size_of_leaves : Leaves → ℕ
  size_of_leaves no_leaf = 0
  size_of_leaves (l ▸ ls) = size_of_leaf l + size_of_leaves ls

  pub size_of_nodes : Nodes → ℕ
  size_of_nodes no_node = 0
  size_of_nodes (one_node (row t ls) ns) = 1 + size_of_leaves ls + size_of_nodes ns

  pub size_of_defs : Defs → ℕ
  size_of_defs no_def = 0
  size_of_defs (one_def (define names (row t ls)) ds) = 1 + length names.exports + size_of_leaves ls + size_of_defs ds

  pub size_of_scope : Scope → ℕ
  size_of_scope (scope_of k id label ds) = 1 + size_of_defs ds
