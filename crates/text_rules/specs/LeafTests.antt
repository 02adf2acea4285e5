-- When a leaf of a sort has the shape that a row asks for.
use Rattle.std.specs.Prelude.{◌^◌, Bool, true, false, ◌&&◌, ◌||◌, nat_lt, List, [], ◌∷◌}
use Rattle.std.specs.List.{list_all}
use Rattle.comp_model.specs.Core as core
use Rattle.comp_model.specs.Core.{Reach, CoreValue}
use Rattle.comp_model.specs.declared.row.Row.TheVariants as rows
use Rattle.comp_model.specs.declared.row.Row.{Row}
use Rattle.comp_model.specs.RowNumbers.{same_row, is_row}
use Rattle.comp_model.specs.Rows as w
use Rattle.comp_model.specs.Rows.{Shape, leaves_of, is_text, fits_number, fits_kind, is_core_value, fits_space, fits_reach, takes_path, inline_rows, bundle_rows, is_optional, the_option, rows_of_node, is_list, rows_of_list, is_case_id, has_scope, is_module}
use Rattle.text_rules.specs.Sorts.{Sort, a_text, a_payload, any_number, a_number_of, a_kind, a_core_word, a_core_heap, a_ref, an_item, an_inline, a_bundle, no_part, a_part, a_node, a_list, a_case_id, a_scope, a_module, a_name, the_results, of_shape, Segment, one, outer, all_of}

-- a name that is looked for where it stands
abbrev pub is_plain_reach : Reach → Bool
is_plain_reach core.outward = true
is_plain_reach core.own = true
is_plain_reach (core.at_place p) = false

-- a core value type that names nothing
abbrev pub is_core_word : CoreValue → Bool
is_core_word (core.ref_index b n) = false
is_core_word (core.ref_numeral b o n) = false
is_core_word (core.ref_name b q x) = false
is_core_word v = true

abbrev pub takes_number : Shape → Bool
takes_number w.a_number = true
takes_number _ = false

abbrev pub takes_payload : Shape → Bool
takes_payload w.a_payload = true
takes_payload _ = false

abbrev pub is_value_type : Shape → Bool
is_value_type w.a_value_type = true
is_value_type _ = false

abbrev pub is_own_value : Shape → Bool
is_own_value w.an_own_core_value = true
is_own_value _ = false

abbrev pub are_rows : List Row → List Row → Bool
are_rows ts us = list_all (λ t. is_row t us) ts

-- whether each leaf of a sort has the shape
abbrev pub fits_sort : Sort → Shape → Bool
fits_sort a_text s = is_text s
fits_sort a_payload s = takes_payload s
fits_sort any_number s = takes_number s
fits_sort (a_number_of ns) s = list_all (λ n. fits_number s n && nat_lt n (2 ^ 32)) ns
fits_sort (a_kind k) s = fits_kind s k
fits_sort (a_core_word v) s = is_core_value s && is_core_word v
fits_sort (a_core_heap q) s = is_core_value s && (fits_reach s q && is_plain_reach q)
fits_sort (a_ref u q) s = fits_space s u && (fits_reach s q && is_plain_reach q)
fits_sort (an_item u) s = fits_space s u && (fits_reach s core.outward && takes_path s)
fits_sort (an_inline u t) s = fits_space s u && is_row t (inline_rows s)
fits_sort (a_bundle u t) s = fits_space s u && is_row t (bundle_rows s u)
fits_sort no_part s = is_optional s
fits_sort (a_part x) s = is_optional s && fits_sort x (the_option s)
fits_sort (a_node t) s = is_row t (rows_of_node s)
fits_sort (a_list ts) s = is_list s && are_rows ts (rows_of_list s)
fits_sort a_case_id s = is_case_id s
fits_sort (a_scope k) s = has_scope s k
fits_sort a_module s = is_module s
fits_sort a_name s = is_text s && is_row rows.AttributedName (rows_of_node s)
fits_sort the_results s = false
fits_sort (of_shape x) s = (is_value_type x && is_value_type s) || (is_own_value x && is_own_value s)

abbrev pub fits_leaves : List Segment → List Shape → Bool
fits_leaves [] [] = true
fits_leaves (one x ∷ xs) (s ∷ ss) = fits_sort x s && fits_leaves xs ss
fits_leaves (outer u ∷ xs) (w.a_place ∷ w.a_placed_ref ∷ w.a_kind ∷ ss) = fits_leaves xs ss
fits_leaves _ _ = false

-- whether leaves are those of a row
abbrev pub fits_row : Row → List Segment → Bool
fits_row t (all_of u ∷ []) = same_row u t
fits_row t xs = fits_leaves xs (leaves_of t)

abbrev pub is_plain : Sort → Bool
is_plain (a_scope k) = false
is_plain a_module = false
is_plain the_results = false
is_plain _ = true

abbrev pub are_plain : List Segment → Bool
are_plain [] = true
are_plain (one x ∷ xs) = is_plain x && are_plain xs
are_plain (outer u ∷ xs) = are_plain xs
are_plain _ = false
