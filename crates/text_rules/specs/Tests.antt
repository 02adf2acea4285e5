-- The sort of what a rule leaves, by recursion on rules: `all r p` says that p holds of the sort of each of its choices.
use Rattle.std.specs.Prelude.{ℕ, zero, suc, ◌+◌, Bool, true, false, cond, not, ◌&&◌, ◌||◌, nat_eq, nat_le, List, [], ◌∷◌, ◌++◌, slice_index}
use Rattle.std.specs.List.{list_all}
use Rattle.comp_model.specs.Core as core
use Rattle.comp_model.specs.Core.{CoreValue}
use Rattle.comp_model.specs.declared.row.ScopeKind.TheVariants as kinds
use Rattle.comp_model.specs.declared.row.ScopeKind.{ScopeKind}
use Rattle.comp_model.specs.declared.row.Row.TheVariants as rows
use Rattle.comp_model.specs.declared.row.Row.{Row}
use Rattle.comp_model.specs.RowNumbers.{same_row}
use Rattle.comp_model.specs.Rows as w
use Rattle.comp_model.specs.Rows.{leaves_of, descriptions, has_scope, is_core_path, value_rows}
use Rattle.wast_grammar.specs.Grammar as g
use Rattle.text_rules.specs.Rule as r
use Rattle.text_rules.specs.Rule.{Rule}
use Rattle.text_rules.specs.Table.{in_table}
use Rattle.text_rules.specs.Sorts.{Sort, a_text, a_payload, any_number, a_number_of, a_kind, a_core_word, a_core_heap, a_ref, an_item, an_inline, a_bundle, no_part, a_part, a_node, a_list, a_case_id, a_scope, a_module, a_name, the_results, of_shape, Segment, one, texts, strings, outer, all_of, Parts}
use Rattle.text_rules.specs.LeafTests.{are_rows, fits_sort, fits_leaves, fits_row, is_plain, are_plain}
use Rattle.text_rules.specs.DefinitionTests.{no_rows, is_component, fits_definition}

-- ---- sorts of all loose parts

abbrev pub bare : Parts
bare = record { rows = []; leaves = []; nodes = []; numbered = []; least = 0; ids = 0; labels = 0; each = false; free = false; results = false; exports = false; some = false; defs = λ k. true }

abbrev pub lone : Sort → Parts
lone x = record bare { leaves = one x ∷ [] }

abbrev pub is_result : Sort → Bool
is_result the_results = true
is_result x = false

abbrev pub no_results : List Segment → Bool
no_results [] = true
no_results (one x ∷ xs) = not (is_result x) && no_results xs
no_results (texts ∷ xs) = no_results xs
no_results (strings ∷ xs) = no_results xs
no_results (outer u ∷ xs) = no_results xs
no_results (all_of t ∷ xs) = no_results xs

-- no ids, and no results
abbrev pub is_quiet : Parts → Bool
is_quiet x = not x.free && (not x.each && (nat_le x.ids 0 && no_results x.leaves))

abbrev pub both_sorts : Parts → Parts → Parts
both_sorts x y = record {
  rows = x.rows ++ y.rows;
  leaves = x.leaves ++ y.leaves;
  nodes = x.nodes ++ y.nodes;
  numbered = x.numbered ++ y.numbered;
  least = x.least + y.least;
  ids = x.ids + y.ids;
  labels = x.labels + y.labels;
  each = x.each || y.each;
  free = x.free || y.free;
  results = (x.results && is_quiet y) || (is_quiet x && y.results);
  exports = x.exports || y.exports;
  some = x.some || y.some;
  defs = λ k. x.defs k && y.defs k;
}

abbrev pub sort_added : r.Adds → Parts
sort_added (r.a_row t) = record bare { rows = t ∷ [] }
sort_added (r.a_number n) = lone (a_number_of (n ∷ []))
sort_added (r.a_core_value v) = lone (a_core_word v)
sort_added (r.a_kind s) = lone (a_kind s)
sort_added r.no_part = lone no_part
sort_added r.no_case_id = lone a_case_id
sort_added r.no_id = record bare { ids = 1 }
sort_added r.no_label = record bare { labels = 1 }

abbrev pub sort_kept : r.Keeps → Parts
sort_kept r.a_text = lone a_text
sort_kept r.a_string = lone a_payload
sort_kept r.a_count = lone any_number
sort_kept r.an_id = record bare { ids = 1 }
sort_kept r.a_case = lone a_case_id
sort_kept r.a_label = record bare { labels = 1 }
sort_kept r.an_export = record bare { exports = true }

abbrev pub sort_outside : r.Outside → Parts
sort_outside r.an_extern_name = lone a_name
sort_outside r.a_plain_name = lone a_text
sort_outside r.core_fields = lone a_module
sort_outside r.some_core_fields = lone a_module

-- ---- when one sort is another too

abbrev pub implies : Bool → Bool → Bool
implies b c = not b || c

abbrev pub below_rows : List Row → List Row → Bool
below_rows [] [] = true
below_rows (t ∷ []) (u ∷ []) = same_row t u
below_rows _ _ = false

abbrev pub below_sort : Sort → Sort → Bool
below_sort x (of_shape s) = is_plain x && fits_sort x s
below_sort (a_node t) (a_node u) = same_row t u
below_sort (a_scope k) (a_scope kinds.Component) = has_scope (w.a_scope kinds.Component) k
below_sort (a_scope k) (a_scope kinds.ComponentType) = has_scope (w.a_scope kinds.ComponentType) k
below_sort (a_scope k) (a_scope kinds.InstanceType) = has_scope (w.a_scope kinds.InstanceType) k
below_sort _ _ = false

abbrev pub below_leaves : List Segment → List Segment → Bool
below_leaves (all_of t ∷ []) xs = are_plain xs && fits_leaves xs (leaves_of t)
below_leaves [] [] = true
below_leaves (texts ∷ []) [] = true
below_leaves (texts ∷ []) (one a_text ∷ []) = true
below_leaves (texts ∷ []) (texts ∷ []) = true
below_leaves (strings ∷ []) [] = true
below_leaves (strings ∷ []) (one a_text ∷ []) = true
below_leaves (strings ∷ []) (one a_payload ∷ []) = true
below_leaves (strings ∷ []) (strings ∷ []) = true
below_leaves (one y ∷ ys) (one x ∷ xs) = below_sort x y && below_leaves ys xs
below_leaves _ _ = false

-- by clauses, so that the second is computed where it counts alone
abbrev pub holds_at : Bool → (ScopeKind → Bool) → ScopeKind → Bool
holds_at false f k = true
holds_at true f k = f k

abbrev pub below_defs : (ScopeKind → Bool) → (ScopeKind → Bool) → Bool
below_defs f h = holds_at (h kinds.Component) f kinds.Component && (holds_at (h kinds.ComponentType) f kinds.ComponentType && (holds_at (h kinds.InstanceType) f kinds.InstanceType && holds_at (h kinds.ModuleType) f kinds.ModuleType))

-- one more for each entry
abbrev pub below_count : Parts → Parts → ℕ → ℕ → Bool
below_count x y m n = implies x.each y.each && nat_le m (n + cond (y.each && not x.each) x.least 0)

abbrev pub below : Parts → Parts → Bool
below x y = below_rows x.rows y.rows && (below_leaves y.leaves x.leaves && (are_rows x.nodes y.nodes && (are_rows x.numbered y.numbered && (nat_le y.least x.least
    && ((y.free || (not x.free && below_count x y x.ids y.ids)) && (below_count x y x.labels y.labels && (implies y.results x.results
    && (implies x.exports y.exports && (implies x.some y.some && below_defs x.defs y.defs)))))))))

-- ---- what wraps take

abbrev pub by_node : Parts → (Row → Parts) → (Parts → Bool) → List Row → Bool
by_node x f p (t ∷ []) = fits_row t x.leaves && p (f t)
by_node x f p _ = false

-- an entry, whole or with a number in front of its leaves
abbrev pub fits_numbered : Row → List Segment → Bool
fits_numbered t (one (a_number_of ns) ∷ xs) = fits_leaves xs (leaves_of t)
fits_numbered t _ = false

abbrev pub entry_sort : Bool → Row → Parts → Parts
entry_sort true t x = record x { rows = []; leaves = []; nodes = x.nodes ++ (t ∷ []); least = x.least + 1 }
entry_sort false t x = record x { rows = []; leaves = []; numbered = x.numbered ++ (t ∷ []); least = x.least + 1 }

abbrev pub by_entry : Parts → (Parts → Bool) → List Row → Bool
by_entry x p (t ∷ []) = (fits_row t x.leaves || fits_numbered t x.leaves) && p (entry_sort (fits_row t x.leaves) t x)
by_entry x p _ = false

abbrev pub lists_of : ℕ → List Row → List Segment
lists_of zero ts = []
lists_of (suc n) ts = one (a_list ts) ∷ lists_of n ts

abbrev pub by_part : Parts → (Parts → Bool) → List Segment → Bool
by_part x p (one y ∷ []) = p (record x { leaves = one (a_part y) ∷ [] })
by_part x p _ = false

abbrev pub by_swap : Parts → (Parts → Bool) → List Segment → Bool
by_swap x p (one a ∷ one b ∷ one c ∷ []) = p (record x { leaves = one a ∷ one c ∷ one b ∷ [] })
by_swap x p _ = false

abbrev pub by_outer : Parts → (Parts → Bool) → List Segment → Bool
by_outer x p (one (a_ref u q) ∷ one (a_ref v z) ∷ one (a_kind k) ∷ []) = p (record x { leaves = outer k ∷ [] })
by_outer x p (one (a_ref u q) ∷ one a_text ∷ one (a_kind k) ∷ []) = p (record x { leaves = one (a_ref u q) ∷ one a_text ∷ one (a_kind k) ∷ [] })
by_outer x p _ = false

abbrev pub by_path : Parts → (Parts → Bool) → List Segment → Bool
by_path x p (one (a_ref u core.outward) ∷ []) = p (record x { leaves = one (an_item u) ∷ [] })
by_path x p (one (a_ref u core.outward) ∷ one a_text ∷ []) = p (record x { leaves = one (an_item u) ∷ [] })
by_path x p (one (a_ref u core.outward) ∷ texts ∷ []) = not (is_core_path u) && p (record x { leaves = one (an_item u) ∷ [] })
by_path x p _ = false

abbrev pub by_heap : Parts → (Parts → Bool) → List Segment → Bool
by_heap x p (one (a_ref u q) ∷ []) = p (record x { leaves = one (a_core_heap q) ∷ [] })
by_heap x p _ = false

abbrev pub are_single : List Segment → Bool
are_single [] = true
are_single (one x ∷ xs) = are_single xs
are_single _ = false

abbrev pub segment_in_front : Segment → List Segment → List Segment → List Segment
segment_in_front x [] seen = x ∷ seen
segment_in_front x (y ∷ ys) seen = segment_in_front y ys (seen ++ (x ∷ []))

abbrev pub segments_turned : List Segment → List Segment
segments_turned [] = []
segments_turned (x ∷ xs) = segment_in_front x xs []

abbrev pub alone_sort : Bool → Row → Parts → Parts
alone_sort true u x = record bare { rows = u ∷ [] }
alone_sort false u x = x

abbrev pub by_alone : Row → Parts → (Parts → Bool) → List Row → Bool
by_alone t x p (u ∷ []) = p (alone_sort (same_row u t) u x)
by_alone t x p _ = false

abbrev pub by_wraps : r.Wraps → Parts → (Parts → Bool) → Bool
by_wraps (r.inline u) x p = by_node x (λ t. record x { rows = []; leaves = one (an_inline u t) ∷ [] }) p x.rows
by_wraps (r.bundle u) x p = by_node x (λ t. record x { rows = []; leaves = one (a_bundle u t) ∷ [] }) p x.rows
by_wraps r.a_node x p = by_node x (λ t. record x { rows = []; leaves = one (a_node t) ∷ [] }) p x.rows
by_wraps r.an_entry x p = by_entry x p x.rows
by_wraps r.a_list x p = no_rows x.numbered && p (record x { nodes = []; numbered = []; least = 0; leaves = x.leaves ++ (one (a_list x.nodes) ∷ []) })
by_wraps r.a_part x p = by_part x p x.leaves
by_wraps r.a_def x p = p (record bare { nodes = x.nodes; numbered = x.numbered; least = x.least; some = true; defs = λ k. x.defs k && fits_definition k x x.rows })
by_wraps (r.a_scope k) x p = x.defs k && p (record x { some = false; defs = λ j. true; leaves = x.leaves ++ (one (a_scope k) ∷ []) })
by_wraps r.swapped x p = by_swap x p x.leaves
by_wraps r.outer x p = by_outer x p x.leaves
by_wraps r.dropped x p = p bare
by_wraps r.path x p = by_path x p x.leaves
by_wraps (r.heap b) x p = by_heap x p x.leaves
by_wraps r.results x p = p (record x { leaves = x.leaves ++ (one the_results ∷ []); results = no_results x.leaves })
by_wraps r.last_first x p = are_single x.leaves && p (record x { leaves = segments_turned x.leaves })
by_wraps r.joined x p = p (record x { leaves = one a_payload ∷ [] })
by_wraps (r.by_number n) x p = no_rows x.nodes && p (record x { nodes = []; numbered = []; least = 0; leaves = x.leaves ++ lists_of n x.numbered })
by_wraps (r.alone t) x p = by_alone t x p x.rows

-- what a definition is of, and leaves out; and a list, which has the entries
abbrev pub counts_entries : r.Wraps → Bool
counts_entries r.a_list = true
counts_entries r.a_def = true
counts_entries r.dropped = true
counts_entries w = false

-- ids and labels for each entry stay only with these
abbrev pub keeps_count : r.Wraps → Parts → Bool
keeps_count w x = counts_entries w || not x.each

abbrev pub unmarked : Parts → Parts
unmarked x = record x { results = false }

abbrev pub unless_marked : r.Wraps → Parts → Parts
unless_marked r.a_def x = x
unless_marked w x = unmarked x

-- ---- rows by their names

-- one node of one of these rows, behind so many ids and labels
abbrev pub nodes_of : ℕ → List Row → List Parts
nodes_of n [] = []
nodes_of n (t ∷ ts) = record bare { leaves = one (a_node t) ∷ []; ids = n; labels = n } ∷ nodes_of n ts

-- a row with its leaves
abbrev pub rowed : List Row → List Parts
rowed [] = []
rowed (t ∷ ts) = record bare { rows = t ∷ []; leaves = all_of t ∷ [] } ∷ rowed ts

-- a definition that stands in these kinds of scope
abbrev pub defined : (ScopeKind → Bool) → Parts
defined f = record bare { some = true; defs = f }

abbrev pub in_component_type : ScopeKind → Bool
in_component_type kinds.ComponentType = true
in_component_type k = false

abbrev pub in_instance_type : ScopeKind → Bool
in_instance_type kinds.InstanceType = true
in_instance_type k = false

abbrev pub in_module_type : ScopeKind → Bool
in_module_type kinds.ModuleType = true
in_module_type k = false

abbrev pub sorts : g.Row → List Parts
sorts g.Val = lone (of_shape w.a_value_type) ∷ []
sorts g.CoreValue = lone (of_shape w.an_own_core_value) ∷ []
sorts g.ComponentItem = defined is_component ∷ []
sorts g.CoreFunc = defined is_component ∷ []
sorts g.Canon = defined is_component ∷ []
sorts g.ComponentTypeItem = defined in_component_type ∷ []
sorts g.InstanceTypeItem = defined in_instance_type ∷ []
sorts g.ModuleTypeItem = defined in_module_type ∷ []
sorts g.CanonicalOption = record bare { nodes = w.options } ∷ []
sorts g.TypeDefinition = record bare { rows = rows.ComponentType ∷ []; leaves = one (a_scope kinds.ComponentType) ∷ [] }
    ∷ record bare { rows = rows.InstanceType ∷ []; leaves = one (a_scope kinds.InstanceType) ∷ [] }
    ∷ rowed (rows.Primitive ∷ rows.ResourceType ∷ rows.FunctionType ∷ value_rows)
sorts g.Signature = nodes_of 1 descriptions
sorts g.NamelessSignature = nodes_of 0 descriptions
sorts g.CoreTypeDefinition = rowed (rows.CoreFunctionType ∷ rows.OtherCoreType ∷ [])
sorts g.CoreField = []

-- ---- what a `many` may leave: texts in UTF-8 or any texts, entries of these rows, inline exports and definitions, as far as its part leaves them

abbrev pub leaves_texts : Rule → Bool
leaves_texts (r.keeps r.a_text) = true
leaves_texts (r.either t a b) = leaves_texts a && leaves_texts b
leaves_texts _ = false

abbrev pub leaves_strings : Rule → Bool
leaves_strings (r.keeps r.a_text) = true
leaves_strings (r.keeps r.a_string) = true
leaves_strings (r.either t a b) = leaves_strings a && leaves_strings b
leaves_strings _ = false

abbrev pub leaves_exports : Rule → Bool
leaves_exports (r.keeps r.an_export) = true
leaves_exports (r.either t a b) = leaves_exports a || leaves_exports b
leaves_exports (r.before c a) = leaves_exports a
leaves_exports (r.after a c) = leaves_exports a
leaves_exports _ = false

abbrev pub all_rows : List Parts → List Row
all_rows [] = []
all_rows (x ∷ xs) = x.rows ++ all_rows xs

abbrev pub all_nodes : List Parts → List Row
all_nodes [] = []
all_nodes (x ∷ xs) = x.nodes ++ all_nodes xs

abbrev pub rows_in : Rule → List Row
rows_in (r.also a (r.a_row t)) = t ∷ []
rows_in (r.row n) = all_rows (sorts n)
rows_in (r.pair a b) = rows_in a ++ rows_in b
rows_in (r.either t a b) = rows_in a ++ rows_in b
rows_in (r.before c a) = rows_in a
rows_in (r.after a c) = rows_in a
rows_in _ = []

abbrev pub leads_number : Rule → Bool
leads_number (r.told ws ns) = true
leads_number (r.pair a b) = leads_number a
leads_number (r.also a x) = leads_number a
leads_number _ = false

abbrev pub numbered_in : Rule → List Row
numbered_in (r.wraps r.an_entry a) = cond (leads_number a) (rows_in a) []
numbered_in (r.before c a) = numbered_in a
numbered_in (r.after a c) = numbered_in a
numbered_in _ = []

abbrev pub leaves_ids : Rule → Bool
leaves_ids (r.keeps r.an_id) = true
leaves_ids (r.before c a) = leaves_ids a
leaves_ids (r.after a c) = leaves_ids a
leaves_ids (r.pair a b) = leaves_ids a || leaves_ids b
leaves_ids (r.either t a b) = leaves_ids a || leaves_ids b
leaves_ids _ = false

abbrev pub entries_in : Rule → List Row
entries_in (r.wraps r.an_entry a) = cond (leads_number a) [] (rows_in a)
entries_in (r.row n) = all_nodes (sorts n)
entries_in (r.also a x) = entries_in a
entries_in (r.pair a b) = entries_in a ++ entries_in b
entries_in (r.either t a b) = entries_in a ++ entries_in b
entries_in (r.many t a) = entries_in a
entries_in (r.before c a) = entries_in a
entries_in (r.after a c) = entries_in a
entries_in _ = []

abbrev pub repeated : (ScopeKind → Bool) → Bool → Rule → Parts
repeated f b a = record {
  rows = [];
  leaves = cond (leaves_texts a) (texts ∷ []) (cond (leaves_strings a) (strings ∷ []) []);
  nodes = entries_in a;
  numbered = numbered_in a;
  least = 0;
  ids = 0;
  labels = 0;
  each = leaves_ids a && not (no_rows (entries_in a));
  free = leaves_ids a && no_rows (entries_in a);
  results = false;
  exports = leaves_exports a;
  some = b;
  defs = f;
}

abbrev pub each_repeats : ((Parts → Bool) → Bool) → Rule → (Parts → Bool) → Bool
each_repeats f a p = f (λ x. below x (repeated (λ k. f (λ y. y.defs k)) (not (f (λ y. not y.some))) a)) && p (repeated (λ k. f (λ y. y.defs k)) (not (f (λ y. not y.some))) a)

-- ---- the whole

-- no case of this number
abbrev pub others : ℕ → Rule → Bool
others n (r.case k t a b) = not (nat_eq n k) && others n b
others n r.no_case = true
others n _ = false

abbrev pub told_numbers : List (List ℕ × ℕ) → List ℕ → List ℕ
told_numbers [] ns = []
told_numbers (x ∷ xs) ns = slice_index ns x.1 ∷ told_numbers xs ns

-- a part that may be missing and has one sort, which nothing has too
abbrev pub lone_sorts : Rule → List Parts
lone_sorts (r.keeps k) = sort_kept k ∷ []
lone_sorts (r.before c a) = lone_sorts a
lone_sorts (r.after a c) = lone_sorts a
lone_sorts _ = []

abbrev pub is_nothing : Rule → Bool
is_nothing r.nothing = true
is_nothing _ = false

abbrev pub covers : List Parts → Bool
covers (x ∷ []) = below bare x
covers _ = false

abbrev pub unless : Bool → ((Parts → Bool) → Bool) → (Parts → Bool) → Bool
unless true f p = true
unless false f p = f p

abbrev pub all : Rule → (Parts → Bool) → Bool
all r.nothing p = p bare
all (r.before c a) p = all a p
all (r.after a c) p = all a p
all (r.placed b c) p = p bare
all (r.keeps k) p = p (sort_kept k)
all (r.reference u q) p = p (lone (a_ref u q))
all (r.told ws ns) p = p (lone (a_number_of (told_numbers ws ns)))
all (r.pair a b) p = all a (λ x. all b (λ y. p (both_sorts x y)))
all (r.either t a b) p = all a p && unless (is_nothing b && covers (lone_sorts a)) (all b) p
all (r.by_test t a b) p = all a p && all b p
all (r.many t a) p = each_repeats (all a) a p
all (r.many_by t a) p = each_repeats (all a) a p
all (r.case n t a b) p = others n b && (all a p && all b p)
all r.no_case p = true
all (r.row n) p = in_table n && list_all p (sorts n)
all (r.checked a) p = all a p
all (r.also a x) p = all a (λ y. p (both_sorts y (sort_added x)))
all (r.wraps w a) p = all a (λ x. keeps_count w x && by_wraps w (unless_marked w x) p)
all (r.outside o) p = p (sort_outside o)
all (r.marks a) p = all a p
all (r.silent k) p = p bare
all (r.skipping a) p = all a p

-- no row stands at its head
abbrev pub unheaded : Rule → Bool
unheaded (r.before c a) = unheaded a
unheaded (r.after a c) = unheaded a
unheaded (r.case n t a b) = unheaded b
unheaded (r.row n) = false
unheaded (r.checked a) = unheaded a
unheaded (r.also a x) = unheaded a
unheaded (r.wraps w a) = unheaded a
unheaded (r.skipping a) = unheaded a
unheaded _ = true

-- one of these sorts is this one too
abbrev pub is_one_of : List Parts → Parts → Bool
is_one_of [] x = false
is_one_of (y ∷ ys) x = below x y || is_one_of ys x

-- whether a row leaves what its name stands for
abbrev pub row_passes : g.Row → Rule → Bool
row_passes n a = unheaded a && all a (is_one_of (sorts n))
