-- Leaves that stay as they are where a definition is resolved: no name and no path stands in them, no id of a case, no core module, and no
-- scope. A reference by a number is plain.
use Rattle.std.specs.Prelude.{List, [], ◌∷◌, ⊤, Some}
use Rattle.comp_model.specs.Core.{ref_name}
use Rattle.comp_model.specs.CoreModules.{CoreModule}
use Rattle.comp_model.specs.Model.{Leaf, core_value, ref, numeral, place, present, node, nodes, case_id, result_ids, core_source, scope, Leaves, no_leaf, ◌▸◌, row, Nodes, no_node, one_node}
use Rattle.comp_tree.specs.declared.tree.Def.{Def}
use Rattle.comp_tree.specs.Lists.{listed}

abbrev mutual
  pub Plain : Leaves → Type 0
  Plain no_leaf = ⊤
  Plain (l ▸ ls) = PlainLeaf l × Plain ls

  pub PlainLeaf : Leaf → Type 0
  PlainLeaf (core_value (ref_name b r x)) = ⊥
  PlainLeaf (ref s (numeral o n)) = ⊤
  PlainLeaf (ref s t) = ⊥
  PlainLeaf (place p) = ⊥
  PlainLeaf (present l) = PlainLeaf l
  PlainLeaf (node (row t ls)) = Plain ls
  PlainLeaf (nodes ns) = PlainNodes ns
  PlainLeaf (case_id (Some x)) = ⊥
  PlainLeaf (result_ids ids) = ⊥
  PlainLeaf (core_source c) = ⊥
  PlainLeaf (scope s) = ⊥
  PlainLeaf _ = ⊤

  pub PlainNodes : Nodes → Type 0
  PlainNodes no_node = ⊤
  PlainNodes (one_node (row t ls) ns) = Plain ls × PlainNodes ns

-- definitions of such leaves alone
abbrev pub DefsPlain : List Def → Type 0
DefsPlain [] = ⊤
DefsPlain (d ∷ ds) = ((C : List CoreModule) → Plain (listed C d.node.leaves.now)) × DefsPlain ds
