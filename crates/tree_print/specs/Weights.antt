-- The weight of parts of a tree, its custom sections of names left out.
use Rattle.std.specs.Prelude.{ℕ, ◌+◌, cond, Bool, true, false}
use Rattle.comp_model.specs.CoreModules.{CoreModule}
use Rattle.comp_model.specs.declared.row.Row.{Row}
use Rattle.comp_model.specs.Model as m
use Rattle.comp_model.specs.Model.{Leaf, Leaves}
use Rattle.comp_model.specs.Weight.{weight_of_leaves}
use Rattle.print_table.specs.TextOf.{unnamed_leaves, is_name_section}

abbrev pub is_node : Leaf → Bool
is_node (m.node n) = true
is_node _ = false

-- a row with these leaves, and a definition of it
abbrev pub row_weight : (CoreModule → ℕ) → Leaves → ℕ
row_weight f ls = 32 + weight_of_leaves f ls

abbrev pub definition_weight : (CoreModule → ℕ) → Row → Leaves → ℕ
definition_weight f u ls = cond (is_name_section u ls) 0 (32 + row_weight f (unnamed_leaves ls))
