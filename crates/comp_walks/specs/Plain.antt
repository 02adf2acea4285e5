-- Leaves whose references alone change when they are resolved: nothing inline, no scope, no place of an outer alias.
use Rattle.std.specs.Prelude.{⊤}
use Rattle.comp_model.specs.Model.{Leaf, ref, place, present, node, nodes, scope, inline, bundle, Leaves, no_leaf, ◌▸◌, row, Nodes, no_node, one_node}

abbrev mutual
  pub ArePlain : Leaves → Type 0
  ArePlain no_leaf = ⊤
  ArePlain (l ▸ ls) = IsPlain l × ArePlain ls

  pub IsPlain : Leaf → Type 0
  IsPlain (ref s (inline n)) = ⊥
  IsPlain (ref s (bundle n)) = ⊥
  IsPlain (place p) = ⊥
  IsPlain (present l) = IsPlain l
  IsPlain (node (row t ls)) = ArePlain ls
  IsPlain (nodes ns) = AreNodesPlain ns
  IsPlain (scope s) = ⊥
  IsPlain _ = ⊤

  pub AreNodesPlain : Nodes → Type 0
  AreNodesPlain no_node = ⊤
  AreNodesPlain (one_node (row t ls) ns) = ArePlain ls × AreNodesPlain ns
