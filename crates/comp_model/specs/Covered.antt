-- Forms that are read and never written: the number of each, and the first place in the order of the text that holds one.
use Rattle.std.specs.Prelude.{ℕ, Bool, cond, not, nat_lt, is_some, Option, Some, None}
use Rattle.comp_model.specs.declared.row.Row.TheVariants as rows
use Rattle.comp_model.specs.declared.row.Row.{Row}
use Rattle.comp_model.specs.RowNumbers.{is_row, unwritten_canonical_rows}
use Rattle.comp_model.specs.Core.{CoreValue, other_value}
use Rattle.comp_model.specs.CoreModules.{CoreModule}
use Rattle.comp_model.specs.Model.{Leaf, core_value, ref, present, node, nodes, core_source, scope, inline, bundle, Leaves, no_leaf, ◌▸◌, row, Nodes, no_node, one_node, define, Defs, no_def, one_def, Scope, scope_of}

-- the number of a row's form: 1 attributes of a name, 2 maps, 3 values, 4 two options, 5 built-ins, 6 core types and entities that are
-- others; a 7th is that of core modules alone
abbrev pub form_of_row : Row → Option ℕ
form_of_row rows.AttributedName = Some 1
form_of_row rows.MapType = Some 2
form_of_row rows.ValueDescription = Some 3
form_of_row rows.OptionGc = Some 4
form_of_row rows.OptionCoreType = Some 4
form_of_row rows.OtherCoreType = Some 6
form_of_row rows.OtherEntity = Some 6
form_of_row t = cond (is_row t unwritten_canonical_rows) (Some 5) None

abbrev pub form_of_value : CoreValue → Option ℕ
form_of_value other_value = Some 6
form_of_value _ = None

-- the lower of two numbers that may be missing
abbrev pub lower_of : Option ℕ → Option ℕ → Option ℕ
lower_of None m = m
lower_of (Some n) None = Some n
lower_of (Some n) (Some m) = Some (cond (nat_lt m n) m n)

-- the lowest form in parts; what stands in a scope or a core module in them is held there
abbrev mutual
  pub form_in_leaves : Leaves → Option ℕ
  form_in_leaves no_leaf = None
  form_in_leaves (l ▸ ls) = lower_of (form_in_leaf l) (form_in_leaves ls)

  pub form_in_leaf : Leaf → Option ℕ
  form_in_leaf (core_value v) = form_of_value v
  form_in_leaf (ref s (inline (row t ls))) = lower_of (form_of_row t) (form_in_leaves ls)
  form_in_leaf (ref s (bundle (row t ls))) = lower_of (form_of_row t) (form_in_leaves ls)
  form_in_leaf (present l) = form_in_leaf l
  form_in_leaf (node (row t ls)) = lower_of (form_of_row t) (form_in_leaves ls)
  form_in_leaf (nodes ns) = form_in_nodes ns
  form_in_leaf _ = None

  pub form_in_nodes : Nodes → Option ℕ
  form_in_nodes no_node = None
  form_in_nodes (one_node (row t ls) ns) = lower_of (lower_of (form_of_row t) (form_in_leaves ls)) (form_in_nodes ns)

-- a form and the offset of what holds it: a definition or a field of a core module, the innermost around it
pub record Uncovered : Type 0 where
  pub row : ℕ
  pub offset : ℕ

abbrev pub held_at : ℕ → Option ℕ → Option Uncovered
held_at o None = None
held_at o (Some n) = Some (record { row = n; offset = o })

abbrev pub first_held : Option Uncovered → Option Uncovered → Option Uncovered
first_held None u = u
first_held (Some x) u = Some x

-- the first that holds one in a core module is given
module _ (core_uncovered : CoreModule → Option Uncovered) where
  abbrev mutual
    -- a definition stands before what it holds
    pub uncovered_in_defs : Defs → Option Uncovered
    uncovered_in_defs no_def = None
    uncovered_in_defs (one_def (define names (row t ls)) ds) =
        first_held (held_at names.offset (lower_of (form_of_row t) (form_in_leaves ls))) (first_held (uncovered_in_leaves ls) (uncovered_in_defs ds))

    -- definitions and core modules in parts
    pub uncovered_in_leaves : Leaves → Option Uncovered
    uncovered_in_leaves no_leaf = None
    uncovered_in_leaves (l ▸ ls) = first_held (uncovered_in_leaf l) (uncovered_in_leaves ls)

    pub uncovered_in_leaf : Leaf → Option Uncovered
    uncovered_in_leaf (ref s (inline (row t ls))) = uncovered_in_leaves ls
    uncovered_in_leaf (ref s (bundle (row t ls))) = uncovered_in_leaves ls
    uncovered_in_leaf (present l) = uncovered_in_leaf l
    uncovered_in_leaf (node (row t ls)) = uncovered_in_leaves ls
    uncovered_in_leaf (nodes ns) = uncovered_in_nodes ns
    uncovered_in_leaf (core_source c) = core_uncovered c
    uncovered_in_leaf (scope (scope_of k id label ds)) = uncovered_in_defs ds
    uncovered_in_leaf _ = None

    pub uncovered_in_nodes : Nodes → Option Uncovered
    uncovered_in_nodes no_node = None
    uncovered_in_nodes (one_node (row t ls) ns) = first_held (uncovered_in_leaves ls) (uncovered_in_nodes ns)

  -- the first in the order of the text that holds a form which is read and never written, with its lowest form
  abbrev pub first_uncovered : Scope → Option Uncovered
  first_uncovered (scope_of k id label ds) = uncovered_in_defs ds

  -- a component that can be written
  abbrev pub is_covered : Scope → Bool
  is_covered s = not (is_some (first_uncovered s))
