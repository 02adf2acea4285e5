-- Whether every count, index and length that is written for a binary scope is below 2 ^ 32, those of the components and types in it too,
-- whatever its rows are. A form that is read and never written counts as short.
use Rattle.std.specs.Prelude.{Bool, true, ◌&&◌, ◌||◌, is_some, length}
use Rattle.comp_model.specs.Core as c
use Rattle.comp_model.specs.Core.{CoreValue, Place}
use Rattle.comp_model.specs.declared.row.Row.{Row}
use Rattle.comp_model.specs.Model as m
use Rattle.comp_model.specs.declared.row.ScopeKind.TheVariants as kinds
use Rattle.comp_model.specs.Model.{Leaf, Leaves, no_leaf, ◌▸◌, row, Nodes, no_node, one_node, define, Defs, no_def, one_def, Scope, scope_of, Target, count_nodes, count_defs}
use Rattle.comp_model.specs.declared.row.ScopeKind.{ScopeKind}
use Rattle.comp_model.specs.Covered.{form_of_row}
use Rattle.comp_wire.specs.Sections.{groups}
use Rattle.comp_wire.specs.Spelled.{items_of}
use Rattle.comp_wire.specs.Fits.{is_word, each_short}

abbrev pub short_value : CoreValue → Bool
short_value (c.ref_index b i) = is_word i
short_value _ = true

abbrev pub short_place : Place → Bool
short_place (c.counted o n) = is_word n
short_place (c.named o x) = true

abbrev pub short_target : Target → Bool
short_target (m.index i) = is_word i
short_target _ = true

-- the sections of a component have lengths and counts; a type has a count
abbrev pub short_frame : ScopeKind → Defs → Bool
short_frame kinds.Component ds = each_short (groups (items_of ds))
short_frame _ ds = is_word (count_defs ds)

-- whether a row is read and never written
abbrev pub is_unwritten : Row → Bool
is_unwritten t = is_some (form_of_row t)

abbrev mutual
  pub short_leaf : Leaf → Bool
  short_leaf (m.text x) = is_word (length x)
  short_leaf (m.number n) = is_word n
  short_leaf (m.core_value v) = short_value v
  short_leaf (m.ref s u) = short_target u
  short_leaf (m.place p) = short_place p
  short_leaf (m.present l) = short_leaf l
  short_leaf (m.node (row t ls)) = is_unwritten t || short_leaves ls
  short_leaf (m.nodes ns) = is_word (count_nodes ns) && short_nodes ns
  short_leaf (m.result_count n) = is_word n
  short_leaf (m.scope s) = is_short s
  short_leaf _ = true

  pub short_leaves : Leaves → Bool
  short_leaves no_leaf = true
  short_leaves (l ▸ ls) = short_leaf l && short_leaves ls

  pub short_nodes : Nodes → Bool
  short_nodes no_node = true
  short_nodes (one_node (row t ls) ns) = (is_unwritten t || short_leaves ls) && short_nodes ns

  pub short_defs : Defs → Bool
  short_defs no_def = true
  short_defs (one_def (define names (row t ls)) ds) = (is_unwritten t || short_leaves ls) && short_defs ds

  pub is_short : Scope → Bool
  is_short (scope_of k id label ds) = short_defs ds && short_frame k ds
