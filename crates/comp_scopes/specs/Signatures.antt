-- A function signature of a module type reuses an earlier written function type that is equal as written (Component Model text format, "Module types").
use Rattle.std.specs.Prelude.{ℕ, zero, suc, ◌+◌, Bool, true, false, ◌&&◌, nat_eq, cond, List, [], ◌∷◌, Option, Some, None}
use Rattle.comp_model.specs.declared.row.Row.TheVariants as rows
use Rattle.comp_model.specs.declared.row.Row.{Row}
use Rattle.comp_model.specs.RowNumbers.{same_row}
use Rattle.comp_model.specs.Core.{same_id, Place, counted, named, Reach, outward, own, at_place, CoreValue, i32, i64, f32, f64, v128, ref_func, ref_extern, ref_numeral, ref_name}
use Rattle.comp_model.specs.Model.{core_value, nodes, Leaves, no_leaf, ◌▸◌, row, Nodes, no_node, one_node, define, Defs, no_def, one_def, Scope, kind_of, defs_of}
use Rattle.comp_model.specs.declared.row.ScopeKind.{ScopeKind}
use Rattle.comp_model.specs.declared.row.ScopeKind.TheVariants as kinds

-- equality of two flags
abbrev pub same_bool : Bool → Bool → Bool
same_bool true b = b
same_bool false true = false
same_bool false false = true

-- equality of what is written, offsets aside: of places, reaches, core value types, entries of lists
abbrev pub same_place : Place → Place → Bool
same_place (counted o d) (counted p e) = nat_eq d e
same_place (named o x) (named p y) = same_id x y
same_place _ _ = false

abbrev pub same_reach : Reach → Reach → Bool
same_reach outward outward = true
same_reach own own = true
same_reach (at_place p) (at_place q) = same_place p q
same_reach _ _ = false

abbrev pub same_written_value : CoreValue → CoreValue → Bool
same_written_value i32 i32 = true
same_written_value i64 i64 = true
same_written_value f32 f32 = true
same_written_value f64 f64 = true
same_written_value v128 v128 = true
same_written_value (ref_func b) (ref_func c) = same_bool b c
same_written_value (ref_extern b) (ref_extern c) = same_bool b c
same_written_value (ref_numeral b o n) (ref_numeral c p m) = same_bool b c && nat_eq n m
same_written_value (ref_name b r x) (ref_name c q y) = same_bool b c && (same_reach r q && same_id x y)
same_written_value _ _ = false

abbrev pub same_entry : Leaves → Leaves → Bool
same_entry (core_value v ▸ no_leaf) (core_value w ▸ no_leaf) = same_written_value v w
same_entry _ _ = false

abbrev pub same_written_values : Nodes → Nodes → Bool
same_written_values no_node no_node = true
same_written_values (one_node (row t ls) ns) (one_node (row u ms) ks) = same_row t u && (same_entry ls ms && same_written_values ns ks)
same_written_values _ _ = false

-- equal parameters and equal results
abbrev pub same_written_signature : Leaves → Leaves → Bool
same_written_signature (nodes ps ▸ nodes rs ▸ no_leaf) (nodes qs ▸ nodes ss ▸ no_leaf) = same_written_values ps qs && same_written_values rs ss
same_written_signature _ _ = false

-- the latest of the first n definitions, the first of which has number k, that is this function type
abbrev pub latest_equal : ℕ → ℕ → Defs → Leaves → Option ℕ → Option ℕ
latest_equal zero k ds ms found = found
latest_equal (suc n) k no_def ms found = found
latest_equal (suc n) k (one_def (define names (row t ls)) ds) ms found = latest_equal n (k + 1) ds ms (cond (same_row t rows.CoreFunctionType && same_written_signature ls ms) (Some k) found)

-- a module type, where alone a signature is reused
abbrev pub is_module_type : ScopeKind → Bool
is_module_type kinds.ModuleType = true
is_module_type kinds.Component = false
is_module_type kinds.ComponentType = false
is_module_type kinds.InstanceType = false

-- the written definition that a signature of definition k reuses: in a module type alone
abbrev pub reused_signature : List Scope → ℕ → Row → Leaves → Option ℕ
reused_signature [] k t ls = None
reused_signature (s ∷ st) k t ls = cond (is_module_type (kind_of s) && same_row t rows.CoreFunctionType) (latest_equal k 0 (defs_of s) ls None) None
