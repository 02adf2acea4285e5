-- The shapes of lists as tests of what a visitor is told.
use Rattle.std.specs.Prelude.{Bool, true, false, ◌&&◌, List, [], ◌∷◌, Option, Some, None}
use Rattle.comp_model.specs.Core.{Id, is_of_text, Place, counted, named, Reach, outward, own, at_place, CoreValue, ref_name}
use Rattle.comp_model.specs.Model as m
use Rattle.comp_model.specs.Model.{Leaf, Path, root_number, root_name, export_of}
use Rattle.comp_model.specs.Events.{Event, leaf, inline, bundle, definition, scope}

-- each part that a visitor is told passes
abbrev pub all_pass : (Event → Bool) → Bool → Event → Bool
all_pass test b e = b && test e

abbrev pub are_none : {A : Type 0} → List A → Bool
are_none [] = true
are_none (x ∷ xs) = false

-- ---- expanded: nothing inline, no bundle, no inline exports

abbrev pub is_expanded_event : Event → Bool
is_expanded_event (inline s) = false
is_expanded_event (bundle s) = false
is_expanded_event (definition names) = are_none names.exports
is_expanded_event _ = true

-- ---- resolved: expanded, and each reference a numeral

abbrev pub is_resolved_value : CoreValue → Bool
is_resolved_value (ref_name b r x) = false
is_resolved_value _ = true

abbrev pub is_resolved_leaf : Leaf → Bool
is_resolved_leaf (m.core_value v) = is_resolved_value v
is_resolved_leaf (m.ref s (m.name r x)) = false
is_resolved_leaf (m.ref s (m.path p)) = false
is_resolved_leaf (m.place (named o x)) = false
is_resolved_leaf _ = true

abbrev pub is_resolved_event : Event → Bool
is_resolved_event (leaf l) = is_resolved_leaf l
is_resolved_event e = is_expanded_event e

-- ---- of the text: no generated id

abbrev pub is_text_id : Option Id → Bool
is_text_id None = true
is_text_id (Some x) = is_of_text x

abbrev pub are_text_ids : List (Option Id) → Bool
are_text_ids [] = true
are_text_ids (x ∷ xs) = is_text_id x && are_text_ids xs

abbrev pub is_text_place : Place → Bool
is_text_place (counted o d) = true
is_text_place (named o x) = is_of_text x

abbrev pub is_text_reach : Reach → Bool
is_text_reach outward = true
is_text_reach own = true
is_text_reach (at_place p) = is_text_place p

abbrev pub is_text_path : Path → Bool
is_text_path (root_number o n) = true
is_text_path (root_name x) = is_of_text x
is_text_path (export_of p t) = is_text_path p

abbrev pub is_text_value : CoreValue → Bool
is_text_value (ref_name b r x) = is_text_reach r && is_of_text x
is_text_value _ = true

abbrev pub is_text_leaf : Leaf → Bool
is_text_leaf (m.core_value v) = is_text_value v
is_text_leaf (m.ref s (m.name r x)) = is_text_reach r && is_of_text x
is_text_leaf (m.ref s (m.path p)) = is_text_path p
is_text_leaf (m.place p) = is_text_place p
is_text_leaf (m.case_id x) = is_text_id x
is_text_leaf (m.result_ids xs) = are_text_ids xs
is_text_leaf _ = true

abbrev pub is_text_event : Event → Bool
is_text_event (leaf l) = is_text_leaf l
is_text_event (definition names) = are_text_ids names.ids
is_text_event (scope k id label) = is_text_id id
is_text_event _ = true
