-- When loose parts have a sort.
use Rattle.std.specs.Prelude.{◌≡◌, ◌≤◌, ℕ, Bool, true, false, List, [], ◌∷◌, ◌++◌, length, ◌+◌, cond, Option, None, ⊤}
use Rattle.std.specs.List.{list_all}
use Rattle.std.specs.Str.{is_utf8}
use Rattle.comp_model.specs.declared.Space.{Space}
use Rattle.comp_model.specs.Core as core
use Rattle.comp_model.specs.Core.{Text, Id, Place, Reach, CoreValue}
use Rattle.comp_model.specs.CoreModules.{CoreModule}
use Rattle.comp_model.specs.Model as m
use Rattle.comp_model.specs.Model.{Leaf, Leaves, ◌▸◌, Node, Nodes, Defs, Path}
use Rattle.comp_model.specs.declared.row.ScopeKind.{ScopeKind}
use Rattle.comp_model.specs.declared.row.Row.TheVariants as rows
use Rattle.comp_model.specs.declared.row.Row.{Row}
use Rattle.comp_model.specs.RowNumbers.{is_row}
use Rattle.comp_model.specs.Rows.{Shape, leaves_of, path_into}
use Rattle.comp_model.specs.NamesFit.{Nameless}
use Rattle.comp_model.specs.Utf8Names.{Utf8Path, Utf8Texts}
use Rattle.comp_wire.specs.Sections.{Word}
use Rattle.core_model.specs.Words.{FieldsWord}
use Rattle.comp_weight.specs.Numerals.{NumeralPath, NumeralPlace}
use Rattle.comp_expanded.specs.OfText.{TextId, TextIds, TextPath, TextPlace}
use Rattle.text_rules.specs.Made.{Made, leaves_from, defs_from}
use Rattle.text_rules.specs.Sorts.{Sort, a_text, a_payload, any_number, a_number_of, a_kind, a_core_word, a_core_heap, a_ref, an_item, an_inline, a_bundle, no_part, a_part, a_node, a_list, a_case_id, a_scope, a_module, a_name, the_results, of_shape, Segment, one, texts, strings, outer, all_of, Parts}
use Rattle.text_rules.specs.Good.{GoodLeaf, GoodLeaves, GoodNodes, GoodDefs, Plain}

pub data HasLeaf : Sort → Leaf → Type 0 where
  text_leaf : {t : Text} → is_utf8 t ≡ true → HasLeaf a_text (m.text t)
  payload_leaf : {t : Text} → HasLeaf a_payload (m.text t)
  any_number_leaf : {n : ℕ} → Word n → HasLeaf any_number (m.number n)
  number_leaf : {ns : List ℕ} {n : ℕ} → ((f : ℕ → Bool) → list_all f ns ≡ true → f n ≡ true) → HasLeaf (a_number_of ns) (m.number n)
  kind_leaf : {k : Space} → HasLeaf (a_kind k) (m.kind k)
  word_leaf : {v : CoreValue} → HasLeaf (a_core_word v) (m.core_value v)
  heap_name : {r : Reach} {b : Bool} {x : Id} → TextId x → HasLeaf (a_core_heap r) (m.core_value (core.ref_name b r x))
  heap_numeral : {r : Reach} {b : Bool} {o n : ℕ} → Word n → HasLeaf (a_core_heap r) (m.core_value (core.ref_numeral b o n))
  name_leaf : {u : Space} {r : Reach} {x : Id} → TextId x → HasLeaf (a_ref u r) (m.ref u (m.name r x))
  numeral_leaf : {u : Space} {r : Reach} {o n : ℕ} → Word n → HasLeaf (a_ref u r) (m.ref u (m.numeral o n))
  item_name : {u : Space} {x : Id} → TextId x → HasLeaf (an_item u) (m.ref u (m.name core.outward x))
  item_numeral : {u : Space} {o n : ℕ} → Word n → HasLeaf (an_item u) (m.ref u (m.numeral o n))
  item_path : {u : Space} {p : Path} → path_into u p ≡ true → NumeralPath p → TextPath p → Utf8Path p → HasLeaf (an_item u) (m.ref u (m.path p))
  inline_leaf : {u : Space} {t : Row} {ls : Leaves} → GoodLeaves (leaves_of t) ls → Nameless ls → HasLeaf (an_inline u t) (m.ref u (m.inline (m.row t ls)))
  bundle_leaf : {u : Space} {t : Row} {ls : Leaves} → GoodLeaves (leaves_of t) ls → HasLeaf (a_bundle u t) (m.ref u (m.bundle (m.row t ls)))
  absent_leaf : HasLeaf no_part m.absent
  present_leaf : {x : Sort} {l : Leaf} → HasLeaf x l → HasLeaf (a_part x) (m.present l)
  node_leaf : {t : Row} {ls : Leaves} → GoodLeaves (leaves_of t) ls → HasLeaf (a_node t) (m.node (m.row t ls))
  list_leaf : {ts : List Row} {ns : Nodes} → GoodNodes ts ns → HasLeaf (a_list ts) (m.nodes ns)
  case_leaf : {x : Option Id} → HasLeaf a_case_id (m.case_id x)
  scope_leaf : {k : ScopeKind} {ds : Defs} → GoodDefs k ds → HasLeaf (a_scope k) (m.scope (m.scope_of k None None ds))
  module_leaf : {c : CoreModule} → FieldsWord c.fields → HasLeaf a_module (m.core_source c)
  name_text : {t : Text} → is_utf8 t ≡ true → HasLeaf a_name (m.text t)
  name_node : {ls : Leaves} → GoodLeaves (leaves_of rows.AttributedName) ls → HasLeaf a_name (m.node (m.row rows.AttributedName ls))
  results_leaf : {xs : List (Option Id)} → HasLeaf the_results (m.result_ids xs)
  shape_leaf : {s : Shape} {l : Leaf} → Plain l → GoodLeaf s l → HasLeaf (of_shape s) l

abbrev pub ArePlain : List Leaf → Type 0
ArePlain [] = ⊤
ArePlain (l ∷ ls) = Plain l × ArePlain ls

pub data HasLeaves : List Segment → List Leaf → Type 0 where
  no_leaves : HasLeaves [] []
  one_leaf : {x : Sort} {ss : List Segment} {l : Leaf} {ls : List Leaf} → HasLeaf x l → HasLeaves ss ls → HasLeaves (one x ∷ ss) (l ∷ ls)
  no_texts : {ss : List Segment} {ls : List Leaf} → HasLeaves ss ls → HasLeaves (texts ∷ ss) ls
  more_texts : {ss : List Segment} {t : Text} {ls : List Leaf} → is_utf8 t ≡ true → HasLeaves (texts ∷ ss) ls → HasLeaves (texts ∷ ss) (m.text t ∷ ls)
  no_strings : {ss : List Segment} {ls : List Leaf} → HasLeaves ss ls → HasLeaves (strings ∷ ss) ls
  more_strings : {ss : List Segment} {t : Text} {ls : List Leaf} → HasLeaves (strings ∷ ss) ls → HasLeaves (strings ∷ ss) (m.text t ∷ ls)
  outer_name : {k : Space} {ss : List Segment} {p : Place} {x : Id} {ls : List Leaf} → NumeralPlace p → TextPlace p → TextId x → HasLeaves ss ls
      → HasLeaves (outer k ∷ ss) (m.place p ∷ m.ref k (m.name (core.at_place p) x) ∷ m.kind k ∷ ls)
  outer_numeral : {k : Space} {ss : List Segment} {p : Place} {o n : ℕ} {ls : List Leaf} → NumeralPlace p → TextPlace p → Word n → HasLeaves ss ls
      → HasLeaves (outer k ∷ ss) (m.place p ∷ m.ref k (m.numeral o n) ∷ m.kind k ∷ ls)
  row_leaves : {t : Row} {ss : List Segment} {ns : List Leaf} → (ls ms : List Leaf) → ns ≡ ls ++ ms → ArePlain ls → GoodLeaves (leaves_of t) (leaves_from ls) → HasLeaves ss ms → HasLeaves (all_of t ∷ ss) ns

-- an entry, whole, or with a number in front of its leaves
pub data HasNode : List Row → List Row → Node → Type 0 where
  whole : {ts us : List Row} {t : Row} {ls : Leaves} → is_row t ts ≡ true → GoodLeaves (leaves_of t) ls → HasNode ts us (m.row t ls)
  with_number : {ts us : List Row} {t : Row} {n : ℕ} {ls : Leaves} → is_row t us ≡ true → GoodLeaves (leaves_of t) ls → HasNode ts us (m.row t (m.number n ▸ ls))

abbrev pub HasNodes : List Row → List Row → List Node → Type 0
HasNodes ts us [] = ⊤
HasNodes ts us (n ∷ ns) = HasNode ts us n × HasNodes ts us ns

-- the entries that stand in lists among leaves
abbrev pub listed_in : Leaf → ℕ
listed_in (m.nodes ns) = m.count_nodes ns
listed_in l = 0

abbrev pub listed : List Leaf → ℕ
listed [] = 0
listed (l ∷ ls) = listed_in l + listed ls

-- all entries, loose and in lists
abbrev pub entries : Made → ℕ
entries a = length a.nodes + listed a.leaves

-- the ids of results are these
abbrev pub ResultIs : List (Option Id) → Leaf → Type 0
ResultIs ids (m.result_ids xs) = ids ≡ xs
ResultIs ids l = ⊤

abbrev pub Results : List (Option Id) → List Leaf → Type 0
Results ids [] = ⊤
Results ids (l ∷ ls) = ResultIs ids l × Results ids ls

pub record HasParts (x : Parts) (a : Made) : Type 0 where
  pub rows : a.rows ≡ x.rows
  pub leaves : HasLeaves x.leaves a.leaves
  pub nodes : HasNodes x.nodes x.numbered a.nodes
  pub least : x.least ≤ length a.nodes
  pub ids : x.free ≡ false → length a.ids ≤ x.ids + cond x.each (entries a) 0
  pub texts : TextIds a.ids
  pub labels : length a.labels ≤ x.labels + cond x.each (entries a) 0
  pub results : x.results ≡ true → Results a.ids a.leaves
  pub exports : x.exports ≡ false → a.exports ≡ []
  pub names : Utf8Texts a.exports
  pub none : x.some ≡ false → a.defs ≡ []
  pub defs : (k : ScopeKind) → x.defs k ≡ true → GoodDefs k (defs_from a.defs)

-- of one of the sorts of which p holds
abbrev pub Has : (Parts → Bool) → Made → Type 0
Has p a = (x : Parts) × (p x ≡ true) × HasParts x a
