-- When parts of a tree fit: they are written by the table of rows, and their texts are UTF-8. The rules of the text format leave no others.
use Rattle.std.specs.Prelude.{◌≡◌, true, List}
use Rattle.comp_model.specs.declared.row.Row.{Row}
use Rattle.comp_model.specs.RowNumbers.{is_row}
use Rattle.comp_model.specs.Rows.{Shape, leaves_of, ShapedLeaf, ShapedLeaves, ShapedNodes}
use Rattle.comp_model.specs.Utf8Names.{Utf8Leaf, Utf8Leaves, Utf8Nodes}
use Rattle.comp_model.specs.Model.{Leaf, Leaves, Node, row, Nodes}

-- a leaf of a shape
abbrev pub FitLeaf : Shape → Leaf → Type 0
FitLeaf s l = ShapedLeaf l s × Utf8Leaf l s

-- leaves of these shapes, one each
abbrev pub FitLeaves : List Shape → Leaves → Type 0
FitLeaves ss ls = ShapedLeaves ls ss × Utf8Leaves ls ss

-- a node of one of these rows
abbrev pub FitNode : List Row → Node → Type 0
FitNode ts (row t ls) = (is_row t ts ≡ true) × FitLeaves (leaves_of t) ls

-- nodes of these rows
abbrev pub FitNodes : List Row → Nodes → Type 0
FitNodes ts ns = ShapedNodes ns ts × Utf8Nodes ns
