-- The marks of the plan of a scope all of whose definitions are written, and of the scopes in it.
use Rattle.std.specs.Prelude.{ℕ, ◌+◌, Bool, true, false}
use Rattle.comp_model.specs.Model.{Leaf, present, node, nodes, scope, Leaves, no_leaf, ◌▸◌, row, Nodes, no_node, one_node, define, Defs, no_def, one_def, Scope, scope_of, defs_of}
use Rattle.comp_model.specs.Origins.{written, name_section, Origins, no_origins, origin_then, Held, holds_none, holds}
use Rattle.comp_model.specs.ItemNames.{has_names}
use Rattle.comp_scopes.specs.Form.{held_first}

-- the name section, where a scope has one
abbrev pub section_where : Bool → Origins
section_where true = origin_then name_section holds_none no_origins
section_where false = no_origins

abbrev pub section_behind : Scope → Origins
section_behind s = section_where (has_names s)

abbrev mutual
  -- definition by definition, from number k on, then what stands behind
  pub written_from : ℕ → Defs → Origins → Origins
  written_from k no_def os = os
  written_from k (one_def (define names (row t ls)) ds) os = origin_then (written k) (written_in ls) (written_from (k + 1) ds os)

  -- the marks of the scope in leaves, if one stands there
  pub written_in : Leaves → Held
  written_in no_leaf = holds_none
  written_in (l ▸ ls) = held_first (written_in_leaf l) (written_in ls)

  pub written_in_leaf : Leaf → Held
  written_in_leaf (present l) = written_in_leaf l
  written_in_leaf (node (row t ls)) = written_in ls
  written_in_leaf (nodes ns) = written_in_nodes ns
  written_in_leaf (scope (scope_of kd id label ds)) = holds (written_from 0 ds (section_behind (scope_of kd id label ds)))
  written_in_leaf _ = holds_none

  pub written_in_nodes : Nodes → Held
  written_in_nodes no_node = holds_none
  written_in_nodes (one_node (row t ls) ns) = held_first (written_in ls) (written_in_nodes ns)

-- the marks of a scope all of whose definitions are written, behind which its name section stands
abbrev pub written_marks : Scope → Origins
written_marks s = written_from 0 (defs_of s) (section_behind s)
