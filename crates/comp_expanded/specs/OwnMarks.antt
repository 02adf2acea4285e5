-- The marks of a list that is its own expansion: each definition is written, and each of its references stands in it.
use Rattle.std.specs.List.{range_with_len}
use Rattle.std.specs.Prelude.{ℕ, ◌+◌}
use Rattle.comp_model.specs.Model.{Leaf, present, node, nodes, scope, Leaves, no_leaf, ◌▸◌, row, Nodes, no_node, one_node, define, Defs, no_def, one_def, Scope, scope_of, defs_of}
use Rattle.comp_model.specs.Origins.{written}
use Rattle.comp_scopes.specs.References.{references}
use Rattle.comp_expanded.specs.ListMarks.{ListMarks, no_marks, mark_then, Inside, nothing_inside, inside_are, inside_first}

abbrev mutual
  -- definition by definition, from number k on
  pub own_from : ℕ → Defs → ListMarks
  own_from k no_def = no_marks
  own_from k (one_def (define names (row t ls)) ds) = mark_then (written k) (range_with_len 0 (references ls)) (own_in ls) (own_from (k + 1) ds)

  -- the marks of the scope in leaves, if one stands there
  pub own_in : Leaves → Inside
  own_in no_leaf = nothing_inside
  own_in (l ▸ ls) = inside_first (own_in_leaf l) (own_in ls)

  pub own_in_leaf : Leaf → Inside
  own_in_leaf (present l) = own_in_leaf l
  own_in_leaf (node (row t ls)) = own_in ls
  own_in_leaf (nodes ns) = own_in_nodes ns
  own_in_leaf (scope (scope_of kd id label ds)) = inside_are (own_from 0 ds)
  own_in_leaf _ = nothing_inside

  pub own_in_nodes : Nodes → Inside
  own_in_nodes no_node = nothing_inside
  own_in_nodes (one_node (row t ls) ns) = inside_first (own_in ls) (own_in_nodes ns)

abbrev pub own_marks : Scope → ListMarks
own_marks s = own_from 0 (defs_of s)
