-- What parts of a scope need, refer to and declare, by how large they are.
use Rattle.std.proofs.Common.{ℕ, suc, ◌+◌, ◌*◌, ◌≤◌, ◌<◌, ◌≡◌, List, [], ◌∷◌, length, replicate, arith}
use Rattle.std.proofs.lemmas.List.{length-append, length-replicate}
use Rattle.comp_model.specs.Core.{ref_numeral, ref_name}
use Rattle.comp_model.specs.Model.{Leaf, text, number, kind, core_value, ref, place, absent, present, node, nodes, case_id, result_ids, result_count, core_source, module_bytes, scope, index, numeral, name, path, inline, bundle, Leaves, no_leaf, ◌▸◌, row, Nodes, no_node, one_node, count_nodes, define, Defs, no_def, one_def, count_defs, Scope}
use Rattle.comp_model.specs.Spaces.{declares_by, described, leaf_spaces, leaves_spaces, spaces_by, declares_row}
use Rattle.comp_model.specs.declared.Space.TheVariants.{CoreType, Value}
use Rattle.comp_model.specs.declared.declares.Declares.{Declares}
use Rattle.comp_model.specs.declared.declares.Declares.TheVariants.{Always, ByKind, ByDescription, ByReference, ByList, ByResults, Nothing}
use Rattle.comp_model.specs.declared.row.Row.{Row}
use Rattle.comp_model.specs.declared.row.Row.TheVariants as rows
use Rattle.comp_scopes.specs.References.{references, references_leaf, references_nodes}
use Rattle.comp_tables.specs.Bounds.{most_needs, most_needs_leaf, most_needs_nodes, most_declared}
use Rattle.tree_names.specs.Size.{size_of_leaf, size_of_leaves, size_of_nodes, size_of_defs, size_of_scope}

-- ---- what references need, and how many there are

mutual
  pub needs_small : (ls : Leaves) → most_needs ls ≤ size_of_leaves ls
  needs_small no_leaf = omega arith
  needs_small (l ▸ ls) = omega (arith, leaf_needs_small l, needs_small ls)

  leaf_needs_small : (l : Leaf) → most_needs_leaf l ≤ size_of_leaf l
  leaf_needs_small (core_value (ref_name b r x)) = omega arith
  leaf_needs_small (ref s (name r x)) = omega arith
  leaf_needs_small (ref s (path p)) = omega arith
  leaf_needs_small (present l) = omega (arith, leaf_needs_small l)
  leaf_needs_small (node (row t ls)) = omega (arith, needs_small ls)
  leaf_needs_small (nodes ns) = omega (arith, nodes_needs_small ns)
  leaf_needs_small _ = omega arith

  nodes_needs_small : (ns : Nodes) → most_needs_nodes ns ≤ size_of_nodes ns
  nodes_needs_small no_node = omega arith
  nodes_needs_small (one_node (row t ls) ns) = omega (arith, needs_small ls, nodes_needs_small ns)

mutual
  pub references_small : (ls : Leaves) → references ls ≤ size_of_leaves ls
  references_small no_leaf = omega arith
  references_small (l ▸ ls) = omega (arith, leaf_references_small l, references_small ls)

  leaf_references_small : (l : Leaf) → references_leaf l ≤ size_of_leaf l
  leaf_references_small (core_value (ref_numeral b o n)) = omega arith
  leaf_references_small (core_value (ref_name b r x)) = omega arith
  leaf_references_small (ref s (numeral o n)) = omega arith
  leaf_references_small (ref s (name r x)) = omega arith
  leaf_references_small (ref s (path p)) = omega arith
  leaf_references_small (ref s (inline (row t ls))) = omega (arith, references_small ls)
  leaf_references_small (ref s (bundle (row t ls))) = omega (arith, references_small ls)
  leaf_references_small (present l) = omega (arith, leaf_references_small l)
  leaf_references_small (node (row t ls)) = omega (arith, references_small ls)
  leaf_references_small (nodes ns) = omega (arith, nodes_references_small ns)
  leaf_references_small _ = omega arith

  nodes_references_small : (ns : Nodes) → references_nodes ns ≤ size_of_nodes ns
  nodes_references_small no_node = omega arith
  nodes_references_small (one_node (row t ls) ns) = omega (arith, references_small ls, nodes_references_small ns)

-- ---- what a definition declares

-- a list has fewer entries than parts
count_small : (ns : Nodes) → count_nodes ns ≤ size_of_nodes ns
count_small no_node = omega arith
count_small (one_node (row t ls) ns) = omega (arith, count_small ns)

-- a description is of one item
one_described : (t : Row) → length (described t) ≤ 1
one_described rows.ModuleDescription = omega arith
one_described rows.FuncDescription = omega arith
one_described rows.ValueDescription = omega arith
one_described rows.TypeEq = omega arith
one_described rows.SubResource = omega arith
one_described rows.ComponentDescription = omega arith
one_described rows.InstanceDescription = omega arith
one_described _ = omega arith

-- no leaf is nothing
some_size : (l : Leaf) → 1 ≤ size_of_leaf l
some_size (ref s (path p)) = omega arith
some_size (ref s (inline (row t ls))) = omega arith
some_size (ref s (bundle (row t ls))) = omega arith
some_size (ref s _) = omega arith
some_size (present l) = omega arith
some_size (node (row t ls)) = omega arith
some_size (nodes ns) = omega arith
some_size (result_ids ids) = omega arith
some_size (result_count n) = omega arith
some_size (scope s) = omega arith
some_size _ = omega arith

leaf_spaces_small : (l : Leaf) (d : Declares) → length (leaf_spaces l d) ≤ size_of_leaf l
leaf_spaces_small (kind s) ByKind = omega arith
leaf_spaces_small (kind s) _ = omega arith
leaf_spaces_small (node (row t ls)) ByDescription = omega (arith, one_described t)
leaf_spaces_small (node (row t ls)) _ = omega arith
leaf_spaces_small (ref s u) ByReference = some_size (ref s u)
leaf_spaces_small (ref s u) _ = omega arith
leaf_spaces_small (nodes ns) ByList = omega (arith, length-replicate (count_nodes ns) CoreType, count_small ns)
leaf_spaces_small (nodes ns) _ = omega arith
leaf_spaces_small (result_ids ids) ByResults = omega (arith, length-replicate (length ids) Value)
leaf_spaces_small (result_ids ids) _ = omega arith
leaf_spaces_small (result_count n) ByResults = omega (arith, length-replicate n Value)
leaf_spaces_small (result_count n) _ = omega arith
leaf_spaces_small _ _ = omega arith

leaves_spaces_small : (ls : Leaves) (d : Declares) → length (leaves_spaces ls d) ≤ size_of_leaves ls
leaves_spaces_small no_leaf d = omega arith
leaves_spaces_small (l ▸ ls) d = omega (arith, length-append (leaf_spaces l d) (leaves_spaces ls d), leaf_spaces_small l d, leaves_spaces_small ls d)

spaces_small : (d : Declares) (ls : Leaves) → length (spaces_by d ls) ≤ 1 + size_of_leaves ls
spaces_small (Always s) ls = omega arith
spaces_small Nothing ls = omega arith
spaces_small ByKind ls = omega (arith, leaves_spaces_small ls ByKind)
spaces_small ByDescription ls = omega (arith, leaves_spaces_small ls ByDescription)
spaces_small ByReference ls = omega (arith, leaves_spaces_small ls ByReference)
spaces_small ByList ls = omega (arith, leaves_spaces_small ls ByList)
spaces_small ByResults ls = omega (arith, leaves_spaces_small ls ByResults)

declares_small : (t : Row) (ls : Leaves) → length (declares_row t ls) ≤ 1 + size_of_leaves ls
declares_small t ls = spaces_small (declares_by t) ls

-- ---- definitions

pub declared_small : (ds : Defs) → most_declared ds ≤ 2 * size_of_defs ds
declared_small no_def = omega arith
declared_small (one_def (define names (row t ls)) ds) = omega (arith, needs_small ls, declares_small t ls, declared_small ds)

pub few_defs : (ds : Defs) → count_defs ds ≤ size_of_defs ds
few_defs no_def = omega arith
few_defs (one_def (define names (row t ls)) ds) = omega (arith, few_defs ds)
