-- When leaves and names of these sorts are those of a definition of a row, in a kind of scope.
use Rattle.std.specs.Prelude.{Bool, true, false, cond, not, ◌&&◌, ◌||◌, nat_le, List, [], ◌∷◌}
use Rattle.comp_model.specs.declared.Space.TheVariants as space
use Rattle.comp_model.specs.declared.row.ScopeKind.TheVariants as kinds
use Rattle.comp_model.specs.declared.row.ScopeKind.{ScopeKind}
use Rattle.comp_model.specs.declared.row.Row.TheVariants as rows
use Rattle.comp_model.specs.declared.row.Row.{Row}
use Rattle.comp_model.specs.RowNumbers.{same_row, is_row}
use Rattle.comp_model.specs.declared.declares.Declares.{Declares}
use Rattle.comp_model.specs.declared.declares.Declares.TheVariants.{Always, ByKind, ByDescription, ByReference, ByList, ByResults, Nothing}
use Rattle.comp_model.specs.Spaces.{declares_by, same_space}
use Rattle.comp_model.specs.Rows as w
use Rattle.comp_model.specs.Rows.{descriptions, types, may_define, is_outer_kind}
use Rattle.text_rules.specs.Sorts.{Sort, a_text, a_kind, a_ref, an_item, an_inline, a_bundle, a_node, a_list, the_results, of_shape, Segment, one, texts, strings, outer, all_of, Parts}
use Rattle.text_rules.specs.LeafTests.{fits_sort, fits_row}

-- ---- what a definition declares

-- leaves that give no space, and one that gives one
abbrev pub is_silent : Declares → Sort → Bool
is_silent ByKind (a_kind k) = false
is_silent ByKind (of_shape s) = false
is_silent ByKind x = true
is_silent ByDescription (a_node t) = false
is_silent ByDescription (of_shape s) = false
is_silent ByDescription x = true
is_silent ByReference (a_ref u q) = false
is_silent ByReference (an_item u) = false
is_silent ByReference (an_inline u t) = false
is_silent ByReference (a_bundle u t) = false
is_silent ByReference (of_shape s) = false
is_silent ByReference x = true
is_silent d x = false

abbrev pub speaks : Declares → Sort → Bool
speaks ByKind (a_kind k) = true
speaks ByDescription (a_node t) = is_row t descriptions
speaks ByReference (a_ref u q) = true
speaks ByReference (an_item u) = true
speaks d x = false

abbrev pub are_silent : Declares → List Segment → Bool
are_silent d [] = true
are_silent d (one x ∷ xs) = is_silent d x && are_silent d xs
are_silent d _ = false

abbrev pub goes_by_kind : Declares → Bool
goes_by_kind ByKind = true
goes_by_kind d = false

abbrev pub one_speaks : Declares → List Segment → Bool
one_speaks d [] = false
one_speaks d (one x ∷ xs) = (speaks d x && are_silent d xs) || (is_silent d x && one_speaks d xs)
one_speaks d (outer u ∷ xs) = goes_by_kind d && are_silent d xs
one_speaks d (texts ∷ xs) = false
one_speaks d (strings ∷ xs) = false
one_speaks d (all_of t ∷ xs) = false

-- whether a row declares one item
abbrev pub one_item : Declares → List Segment → Bool
one_item (Always s) xs = true
one_item Nothing xs = false
one_item ByKind xs = one_speaks ByKind xs
one_item ByDescription xs = one_speaks ByDescription xs
one_item ByReference xs = one_speaks ByReference xs
one_item ByList xs = false
one_item ByResults xs = false

-- ---- definitions

abbrev pub outer_fits : ScopeKind → List Segment → Bool
outer_fits k (outer u ∷ []) = is_outer_kind k u
outer_fits k _ = false

abbrev pub alias_fits : ScopeKind → Row → List Segment → Bool
alias_fits k t xs = cond (same_row t rows.AliasOuter) (outer_fits k xs) true

abbrev pub goes_by_list : Declares → Bool
goes_by_list ByList = true
goes_by_list d = false

abbrev pub lone_list : List Segment → Bool
lone_list (one (a_list ts) ∷ []) = true
lone_list _ = false

abbrev pub no_rows : List Row → Bool
no_rows [] = true
no_rows (t ∷ ts) = false

-- an item for each entry of a list
abbrev pub item_for_each : Row → Parts → Bool
item_for_each t x = goes_by_list (declares_by t) && (lone_list x.leaves && (no_rows x.nodes && (no_rows x.numbered && (nat_le x.ids 0 && (nat_le x.labels 0 && not x.exports)))))

-- no more ids, labels and inline exports than there are items
abbrev pub names_counted : Row → Parts → Bool
names_counted t x = not x.free && (item_for_each t x
    || (not x.each && cond (one_item (declares_by t) x.leaves) (nat_le x.ids 1 && nat_le x.labels 1) (nat_le x.ids 0 && (nat_le x.labels 0 && not x.exports))))

abbrev pub exporting : List Row
exporting = rows.CoreModule ∷ rows.Component ∷ rows.Instantiate ∷ rows.Bundle ∷ rows.Lift ∷ types

abbrev pub is_func_alias : List Segment → Bool
is_func_alias (one (a_ref u q) ∷ one a_text ∷ one (a_kind k) ∷ []) = same_space k space.Func
is_func_alias _ = false

abbrev pub is_item_import : List Segment → Bool
is_item_import (one x ∷ one (a_node t) ∷ []) = is_row t (rows.ModuleDescription ∷ rows.FuncDescription ∷ rows.ComponentDescription ∷ rows.InstanceDescription ∷ [])
is_item_import _ = false

abbrev pub may_have_exports : Row → List Segment → Bool
may_have_exports t xs = cond (same_row t rows.AliasExport) (is_func_alias xs) (cond (same_row t rows.Import) (is_item_import xs) (is_row t exporting))

abbrev pub is_component : ScopeKind → Bool
is_component kinds.Component = true
is_component _ = false

abbrev pub exports_fit : ScopeKind → Row → Parts → Bool
exports_fit k t x = not x.exports || (is_component k && may_have_exports t x.leaves)

abbrev pub start_leaves : List Segment → Bool
start_leaves (one (a_ref u q) ∷ one (a_list ts) ∷ one the_results ∷ []) = fits_sort (a_ref u q) (w.an_index space.Func) && fits_sort (a_list ts) (w.a_list (rows.StartArgument ∷ []))
start_leaves _ = false

-- the ids of a start are those of its results
abbrev pub fits_start : ScopeKind → Parts → Bool
fits_start k x = is_component k && (start_leaves x.leaves && (x.results && (not x.each && (nat_le x.labels 0 && not x.exports))))

abbrev pub fits_definition : ScopeKind → Parts → List Row → Bool
fits_definition k x (t ∷ []) = cond (same_row t rows.Start) (fits_start k x) (may_define k t && (fits_row t x.leaves && (alias_fits k t x.leaves && (names_counted t x && exports_fit k t x))))
fits_definition k x _ = false
