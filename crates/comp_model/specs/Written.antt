-- What is written: no index, no count of results, no bytes, and inline exports on what declares one item alone.
use Rattle.std.specs.Prelude.{◌≡◌, List, [], ◌∷◌, length, ⊤}
use Rattle.comp_model.specs.Core.{Text, ref_index}
use Rattle.comp_model.specs.Model.{Leaf, core_value, ref, present, node, nodes, result_count, module_bytes, scope, index, inline, bundle, Leaves, no_leaf, ◌▸◌, row, Nodes, no_node, one_node, define, Defs, no_def, one_def, Scope, scope_of}
use Rattle.comp_model.specs.Spaces.{declares_row}
use Rattle.comp_model.specs.declared.Space.{Space}

-- inline export names stand on one declared item
abbrev pub ExportsWritten : List Text → List Space → Type 0
ExportsWritten [] ss = ⊤
ExportsWritten (x ∷ xs) ss = length ss ≡ 1

abbrev mutual
  pub IsWrittenLeaf : Leaf → Type 0
  IsWrittenLeaf (core_value (ref_index b i)) = ⊥
  IsWrittenLeaf (ref s (index i)) = ⊥
  IsWrittenLeaf (ref s (inline (row t ls))) = AreWrittenLeaves ls
  IsWrittenLeaf (ref s (bundle (row t ls))) = AreWrittenLeaves ls
  IsWrittenLeaf (present l) = IsWrittenLeaf l
  IsWrittenLeaf (node (row t ls)) = AreWrittenLeaves ls
  IsWrittenLeaf (nodes ns) = AreWrittenNodes ns
  IsWrittenLeaf (result_count n) = ⊥
  IsWrittenLeaf (module_bytes bs) = ⊥
  IsWrittenLeaf (scope s) = IsWritten s
  IsWrittenLeaf _ = ⊤

  pub AreWrittenLeaves : Leaves → Type 0
  AreWrittenLeaves no_leaf = ⊤
  AreWrittenLeaves (l ▸ ls) = IsWrittenLeaf l × AreWrittenLeaves ls

  pub AreWrittenNodes : Nodes → Type 0
  AreWrittenNodes no_node = ⊤
  AreWrittenNodes (one_node (row t ls) ns) = AreWrittenLeaves ls × AreWrittenNodes ns

  pub AreWrittenDefs : Defs → Type 0
  AreWrittenDefs no_def = ⊤
  AreWrittenDefs (one_def (define names (row t ls)) ds) = ExportsWritten names.exports (declares_row t ls) × AreWrittenLeaves ls × AreWrittenDefs ds

  pub IsWritten : Scope → Type 0
  IsWritten (scope_of k id label ds) = AreWrittenDefs ds
