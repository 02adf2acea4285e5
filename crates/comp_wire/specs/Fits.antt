-- Whether a component can be written, as a test: true exactly where `FitsComponent` holds, which is `fits_is_exact`.
use Rattle.std.specs.Prelude.{ℕ, zero, suc, ◌^◌, ◌==◌, nat_lt, Bool, true, false, ◌&&◌, List, [], ◌∷◌, length, Option, Some, None}
use Rattle.std.specs.List.{list_any}
use Rattle.comp_model.specs.declared.Space.{Space}
use Rattle.comp_model.specs.declared.Space.TheVariants.{Func, Value, Ty, Component, Instance}
use Rattle.comp_model.specs.Spaces.{all_spaces, same_space}
use Rattle.comp_model.specs.Rows.{is_primitive_code}
use Rattle.comp_model.specs.Core as c
use Rattle.comp_model.specs.Core.{CoreValue, Place}
use Rattle.comp_model.specs.Model as m
use Rattle.comp_model.specs.declared.row.ScopeKind.TheVariants as kinds
use Rattle.comp_model.specs.Model.{Leaf, Leaves, no_leaf, ◌▸◌, Node, row, Nodes, no_node, one_node, Names, Def, define, Defs, no_def, one_def, Scope, scope_of, Target, count_nodes, count_defs}
use Rattle.comp_model.specs.declared.row.ScopeKind.{ScopeKind}
use Rattle.comp_wire.specs.Table as t
use Rattle.comp_wire.specs.Table.{Family, Field, Piece, byte, leaf, limits, outer, Line, lines}
use Rattle.comp_wire.specs.Sections.{Group, body, section_of, rows_of, groups}
use Rattle.comp_wire.specs.Spelled.{find, declarations_of, items_of}

abbrev pub is_word : ℕ → Bool
is_word n = nat_lt n (2 ^ 32)

abbrev pub is_core_space : Space → Bool
is_core_space Func = false
is_core_space Value = false
is_core_space Ty = false
is_core_space Component = false
is_core_space Instance = false
is_core_space _ = true

abbrev pub core_fits : CoreValue → Bool
core_fits (c.ref_index b i) = is_word i
core_fits (c.ref_numeral b o n) = false
core_fits (c.ref_name b r x) = false
core_fits c.other_value = false
core_fits _ = true

abbrev pub place_fits : Place → Bool
place_fits (c.counted o n) = (o == 0) && is_word n
place_fits (c.named o x) = false

abbrev pub is_none : {A : Type 0} → Option A → Bool
is_none None = true
is_none (Some x) = false

abbrev pub is_empty : {A : Type 0} → List A → Bool
is_empty [] = true
is_empty (x ∷ xs) = false

abbrev pub has_no_names : Names → Bool
has_no_names w = is_empty w.ids && (is_empty w.labels && (is_empty w.exports && (w.offset == 0)))

abbrev pub code_of_kind : ScopeKind → ℕ
code_of_kind kinds.Component = 0
code_of_kind kinds.ComponentType = 1
code_of_kind kinds.InstanceType = 2
code_of_kind kinds.ModuleType = 3

-- the test of the leaf at a place
abbrev pub test_at : ℕ → Field → List (Field → Bool) → Bool
test_at i f [] = false
test_at zero f (g ∷ gs) = g f
test_at (suc i) f (g ∷ gs) = test_at i f gs

-- the leaves of an outer alias, where its kind is this space
abbrev pub outer_fits_in : ℕ → List (Field → Bool) → Space → Bool
outer_fits_in i gs s = test_at i t.outward gs && (test_at (suc i) (t.index_in s) gs && test_at (suc (suc i)) (t.kind_is s) gs)

abbrev pub outer_fits : ℕ → List (Field → Bool) → Bool
outer_fits i gs = list_any (outer_fits_in i gs) all_spaces

abbrev pub pieces_fit : List Piece → List (Field → Bool) → Bool
pieces_fit [] gs = true
pieces_fit (byte b ∷ ps) gs = pieces_fit ps gs
pieces_fit (leaf i f ∷ ps) gs = test_at i f gs && pieces_fit ps gs
pieces_fit (limits i ∷ ps) gs = test_at i t.unsigned gs && (test_at (suc i) t.maximum gs && pieces_fit ps gs)
pieces_fit (outer i ∷ ps) gs = outer_fits i gs && pieces_fit ps gs

abbrev pub line_fits : Option Line → List (Field → Bool) → Bool
line_fits None gs = false
line_fits (Some l) gs = (length gs == l.leaves) && pieces_fit l.pieces gs

abbrev pub reference_fits : Field → Space → Target → Bool
reference_fits (t.index_in u) s (m.index i) = same_space s u && is_word i
reference_fits t.sorted_index s (m.index i) = is_word i
reference_fits t.core_sorted_index s (m.index i) = is_core_space s && is_word i
reference_fits t.value s (m.index i) = same_space s Ty && is_word i
reference_fits _ _ _ = false

abbrev pub each_short : List Group → Bool
each_short [] = true
each_short (g ∷ gs) = is_word (length g.items) && (is_word (length (body g)) && each_short gs)

abbrev mutual
  pub leaf_fits : Leaf → Field → Bool
  leaf_fits (m.number n) t.unsigned = is_word n
  leaf_fits (m.number n) t.primitive_byte = is_primitive_code n
  leaf_fits (m.number n) t.value = is_primitive_code n
  leaf_fits (m.number n) t.async_byte = nat_lt n 2
  leaf_fits (m.number n) t.flag = nat_lt n 2
  leaf_fits (m.ref s u) f = reference_fits f s u
  leaf_fits (m.place p) t.outward = place_fits p
  leaf_fits (m.result_count n) t.results = is_word n
  leaf_fits (m.kind s) t.sort = true
  leaf_fits (m.kind s) t.core_sort = is_core_space s
  leaf_fits (m.kind s) (t.kind_is u) = same_space s u
  leaf_fits (m.text x) t.string = is_word (length x)
  leaf_fits (m.text x) t.extern_name = is_word (length x)
  leaf_fits (m.text x) t.rest = true
  leaf_fits m.absent (t.optional f) = true
  leaf_fits (m.present l) (t.optional f) = leaf_fits l f
  leaf_fits m.absent (t.result f) = true
  leaf_fits (m.present l) (t.result f) = leaf_fits l f
  leaf_fits m.absent t.maximum = true
  leaf_fits (m.present l) t.maximum = leaf_fits l t.unsigned
  leaf_fits (m.core_value v) t.core_type = core_fits v
  leaf_fits (m.case_id i) t.unspelled = is_none i
  leaf_fits (m.node n) (t.one f) = node_fits n f
  leaf_fits (m.nodes ns) (t.each f) = is_word (count_nodes ns) && nodes_fit ns f
  leaf_fits (m.module_bytes bs) t.whole_module = true
  leaf_fits (m.scope s) (t.type_scope k) = type_scope_fits s k
  leaf_fits (m.scope s) t.whole_component = fits s
  leaf_fits _ _ = false

  pub leaf_tests : Leaves → List (Field → Bool)
  leaf_tests no_leaf = []
  leaf_tests (l ▸ ls) = leaf_fits l ∷ leaf_tests ls

  pub node_fits : Node → Family → Bool
  node_fits (row u ls) f = line_fits (find u (lines f)) (leaf_tests ls)

  pub nodes_fit : Nodes → Family → Bool
  nodes_fit no_node f = true
  nodes_fit (one_node n ns) f = node_fits n f && nodes_fit ns f

  pub item_fits : Node → Bool
  item_fits (row u ls) = line_fits (find u (lines (rows_of (section_of u)))) (leaf_tests ls)

  pub declaration_fits : Def → Family → Bool
  declaration_fits (define names n) f = has_no_names names && node_fits n f

  pub definition_fits : Def → Bool
  definition_fits (define names n) = has_no_names names && item_fits n

  pub declarations_fit : Defs → Family → Bool
  declarations_fit no_def f = true
  declarations_fit (one_def d ds) f = declaration_fits d f && declarations_fit ds f

  pub definitions_fit : Defs → Bool
  definitions_fit no_def = true
  definitions_fit (one_def d ds) = definition_fits d && definitions_fit ds

  pub type_scope_fits : Scope → ScopeKind → Bool
  type_scope_fits (scope_of k id label ds) kind = (code_of_kind k == code_of_kind kind) && (is_none id && (is_none label && (is_word (count_defs ds) && declarations_fit ds (declarations_of kind))))

  -- Whether a component can be written.
  pub fits : Scope → Bool
  fits (scope_of k id label ds) = (code_of_kind k == code_of_kind kinds.Component) && (is_none id && (is_none label && (definitions_fit ds && each_short (groups (items_of ds)))))
