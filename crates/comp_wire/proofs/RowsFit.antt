-- A component that fits the table of rows, is binary, has no form that is never written, and is short, can be written: tests of both
-- tables by computation, and an induction on the model.
use Rattle.std.proofs.Common.{◌≡◌, ◌≢◌, ℕ, zero, suc, List, [], ◌∷◌, length, refl, sym, ◌∙◌, ap, subst, Bool, true, false, ◌&&◌, ◌||◌, not, Option, Some, None, if◌then◌else◌, inl, inr, is_some}
use Rattle.std.specs.Prelude.{◌==◌}
use Rattle.std.specs.List.{list_all}
use Rattle.std.proofs.lemmas.Bool.{eqb-true}
use Rattle.comp_model.specs.declared.Space.{Space}
use Rattle.comp_model.specs.declared.Space.TheVariants.{CoreType, CoreInstance, Func, Value, Ty, Component, Instance}
use Rattle.comp_model.specs.Core as c
use Rattle.comp_model.specs.Core.{Id, CoreValue, Place}
use Rattle.comp_model.specs.CoreModules.{CoreModule}
use Rattle.comp_model.specs.declared.row.Row.TheVariants as rows
use Rattle.comp_model.specs.declared.row.Row.{Row}
use Rattle.comp_model.specs.RowNumbers.{same_row, is_row}
use Rattle.comp_model.specs.Model as m
use Rattle.comp_model.specs.declared.row.ScopeKind.TheVariants as kinds
use Rattle.comp_model.specs.Model.{Leaf, Leaves, no_leaf, ◌▸◌, Node, row, Nodes, no_node, one_node, define, Defs, no_def, one_def, Scope, scope_of, kind_of, Target}
use Rattle.comp_model.specs.declared.row.ScopeKind.{ScopeKind}
use Rattle.comp_model.specs.Spaces.{same_space}
use Rattle.comp_model.specs.Rows as r
use Rattle.comp_model.specs.Rows.{Shape, leaves_of, core_sorts, is_space, may_define, fits_space, is_primitive_code, is_outer_kind, is_outer_alias, fits_together, ShapedDefs, FitsRows}
use Rattle.comp_model.specs.Binary.{IsBinaryValue, IsBinaryLeaf, AreBinaryLeaves, AreBinaryNodes, AreBinaryDefs, IsBinary}
use Rattle.comp_model.specs.Covered.{Uncovered, form_of_row, form_in_leaves, form_in_leaf, form_in_nodes, lower_of, held_at, first_held, uncovered_in_defs, uncovered_in_leaves, uncovered_in_leaf, uncovered_in_nodes, first_uncovered}
use Rattle.comp_model.proofs.Tests.{same_row-true, same_space-true}
use Rattle.comp_wire.specs.Table as t
use Rattle.comp_wire.specs.Table.{Family, Field, Piece, byte, leaf, limits, outer, Line, lines}
use Rattle.comp_wire.specs.Sections.{section_of, rows_of}
use Rattle.comp_wire.specs.Spelled.{find, declarations_of, IsCoreSpace, FitsCore, fits_at, FitsPieces, FitsLine, FitsLeaf, fits_leaves, FitsNode, FitsNodes, FitsItem, FitsDeclarations, FitsDefinitions, FitsTypeScope, FitsSections}
use Rattle.comp_wire.specs.Short.{is_unwritten, short_leaf, short_leaves, short_nodes, short_defs, is_short}
use Rattle.comp_wire.proofs.RowsAgree.{is_any_number}
use Rattle.comp_wire.proofs.Groups.{and_both}
use Rattle.comp_wire.proofs.FitsTest.{word, primitive, below_two, short, either}

not_true : false ≡ true → ⊥
not_true h = cc

-- ---- what shape a field spells

abbrev found : Row → List Line → Bool
found u ls = is_some (find u ls)

-- each row that is written has a line in the family; none is an outer alias
abbrev rows_found : List Row → Family → Bool
rows_found us f = list_all (λ u. not (same_row u rows.AliasOuter) && (is_unwritten u || found u (lines f))) us

abbrev same_kind : ScopeKind → ScopeKind → Bool
same_kind kinds.ComponentType kinds.ComponentType = true
same_kind kinds.InstanceType kinds.InstanceType = true
same_kind kinds.ModuleType kinds.ModuleType = true
same_kind _ _ = false

abbrev is_a_component : ScopeKind → Bool
is_a_component kinds.Component = true
is_a_component _ = false

-- a leaf of this shape fits this field, where it is binary, written and short
abbrev serves : Shape → Field → Bool
serves r.a_text t.string = true
serves r.a_payload t.rest = true
serves r.a_name t.extern_name = true
serves r.a_number t.unsigned = true
serves r.a_flag t.async_byte = true
serves r.a_flag t.flag = true
serves r.a_primitive t.primitive_byte = true
serves r.a_value_type t.value = true
serves r.a_kind t.sort = true
serves r.a_core_kind t.core_sort = true
serves r.a_core_value t.core_type = true
serves r.an_own_core_value t.core_type = true
serves (r.an_index s) (t.index_in u) = same_space s u
serves (r.a_ref s) (t.index_in u) = same_space s u
serves r.a_function_use (t.index_in u) = same_space Ty u
serves r.a_component_use (t.index_in u) = same_space Ty u
serves r.an_instance_use (t.index_in u) = same_space Ty u
serves r.a_module_use (t.index_in u) = same_space CoreType u
serves r.a_signature_use (t.index_in u) = same_space CoreType u
serves r.a_core_argument (t.index_in u) = same_space CoreInstance u
serves (r.a_ref_of ss) t.core_sorted_index = list_all (λ s. is_space s core_sorts) ss
serves r.any_ref t.sorted_index = true
serves r.an_argument t.sorted_index = true
serves (r.an_option s) (t.optional f) = serves s f
serves (r.an_option s) (t.result f) = serves s f
serves (r.an_option s) t.maximum = is_any_number s
serves r.a_case_id t.unspelled = true
serves (r.a_node us) (t.one f) = rows_found us f
serves (r.a_list us) (t.each f) = rows_found us f
serves r.the_results t.results = true
serves r.the_module t.whole_module = true
serves (r.a_scope k) (t.type_scope j) = same_kind k j
serves (r.a_scope k) t.whole_component = is_a_component k
serves _ _ = false

-- the same as a family, each pair by itself
pub data Serves : Shape → Field → Type 0 where
  as_string : Serves r.a_text t.string
  as_rest : Serves r.a_payload t.rest
  as_name : Serves r.a_name t.extern_name
  as_number : Serves r.a_number t.unsigned
  as_async : Serves r.a_flag t.async_byte
  as_flag : Serves r.a_flag t.flag
  as_primitive : Serves r.a_primitive t.primitive_byte
  as_value : Serves r.a_value_type t.value
  as_kind : Serves r.a_kind t.sort
  as_core_kind : Serves r.a_core_kind t.core_sort
  as_core : Serves r.a_core_value t.core_type
  as_own_core : Serves r.an_own_core_value t.core_type
  as_index : (s u : Space) → same_space s u ≡ true → Serves (r.an_index s) (t.index_in u)
  as_reference : (s u : Space) → same_space s u ≡ true → Serves (r.a_ref s) (t.index_in u)
  as_function : (u : Space) → same_space Ty u ≡ true → Serves r.a_function_use (t.index_in u)
  as_component : (u : Space) → same_space Ty u ≡ true → Serves r.a_component_use (t.index_in u)
  as_instance : (u : Space) → same_space Ty u ≡ true → Serves r.an_instance_use (t.index_in u)
  as_module_type : (u : Space) → same_space CoreType u ≡ true → Serves r.a_module_use (t.index_in u)
  as_signature : (u : Space) → same_space CoreType u ≡ true → Serves r.a_signature_use (t.index_in u)
  as_core_argument : (u : Space) → same_space CoreInstance u ≡ true → Serves r.a_core_argument (t.index_in u)
  as_core_sorted : (ss : List Space) → list_all (λ s. is_space s core_sorts) ss ≡ true → Serves (r.a_ref_of ss) t.core_sorted_index
  as_sorted : Serves r.any_ref t.sorted_index
  as_argument : Serves r.an_argument t.sorted_index
  as_option : (s : Shape) (f : Field) → Serves s f → Serves (r.an_option s) (t.optional f)
  as_result : (s : Shape) (f : Field) → Serves s f → Serves (r.an_option s) (t.result f)
  as_maximum : Serves (r.an_option r.a_number) t.maximum
  as_case : Serves r.a_case_id t.unspelled
  as_node : (us : List Row) (f : Family) → rows_found us f ≡ true → Serves (r.a_node us) (t.one f)
  as_list : (us : List Row) (f : Family) → rows_found us f ≡ true → Serves (r.a_list us) (t.each f)
  as_results : Serves r.the_results t.results
  as_module : Serves r.the_module t.whole_module
  as_type : (k j : ScopeKind) → same_kind k j ≡ true → Serves (r.a_scope k) (t.type_scope j)
  as_whole : (k : ScopeKind) → is_a_component k ≡ true → Serves (r.a_scope k) t.whole_component

maximum_of : (s : Shape) → is_any_number s ≡ true → Serves (r.an_option s) t.maximum
maximum_of r.a_number e = as_maximum
maximum_of s e = absurd (not_true e)

serving : (s : Shape) (f : Field) → serves s f ≡ true → Serves s f
serving r.a_text t.string e = as_string
serving r.a_text f e = absurd (not_true e)
serving r.a_payload t.rest e = as_rest
serving r.a_payload f e = absurd (not_true e)
serving r.a_name t.extern_name e = as_name
serving r.a_name f e = absurd (not_true e)
serving r.a_number t.unsigned e = as_number
serving r.a_number f e = absurd (not_true e)
serving r.a_flag t.async_byte e = as_async
serving r.a_flag t.flag e = as_flag
serving r.a_flag f e = absurd (not_true e)
serving r.a_primitive t.primitive_byte e = as_primitive
serving r.a_primitive f e = absurd (not_true e)
serving r.a_value_type t.value e = as_value
serving r.a_value_type f e = absurd (not_true e)
serving r.a_kind t.sort e = as_kind
serving r.a_kind f e = absurd (not_true e)
serving r.a_core_kind t.core_sort e = as_core_kind
serving r.a_core_kind f e = absurd (not_true e)
serving r.a_core_value t.core_type e = as_core
serving r.a_core_value f e = absurd (not_true e)
serving r.an_own_core_value t.core_type e = as_own_core
serving r.an_own_core_value f e = absurd (not_true e)
serving (r.an_index s) (t.index_in u) e = as_index s u e
serving (r.an_index s) f e = absurd (not_true e)
serving (r.a_ref s) (t.index_in u) e = as_reference s u e
serving (r.a_ref s) f e = absurd (not_true e)
serving r.a_function_use (t.index_in u) e = as_function u e
serving r.a_function_use f e = absurd (not_true e)
serving r.a_component_use (t.index_in u) e = as_component u e
serving r.a_component_use f e = absurd (not_true e)
serving r.an_instance_use (t.index_in u) e = as_instance u e
serving r.an_instance_use f e = absurd (not_true e)
serving r.a_module_use (t.index_in u) e = as_module_type u e
serving r.a_module_use f e = absurd (not_true e)
serving r.a_signature_use (t.index_in u) e = as_signature u e
serving r.a_signature_use f e = absurd (not_true e)
serving r.a_core_argument (t.index_in u) e = as_core_argument u e
serving r.a_core_argument f e = absurd (not_true e)
serving (r.a_ref_of ss) t.core_sorted_index e = as_core_sorted ss e
serving (r.a_ref_of ss) f e = absurd (not_true e)
serving r.any_ref t.sorted_index e = as_sorted
serving r.any_ref f e = absurd (not_true e)
serving r.an_argument t.sorted_index e = as_argument
serving r.an_argument f e = absurd (not_true e)
serving (r.an_option s) (t.optional f) e = as_option s f (serving s f e)
serving (r.an_option s) (t.result f) e = as_result s f (serving s f e)
serving (r.an_option s) t.maximum e = maximum_of s e
serving (r.an_option s) f e = absurd (not_true e)
serving r.a_case_id t.unspelled e = as_case
serving r.a_case_id f e = absurd (not_true e)
serving (r.a_node us) (t.one f) e = as_node us f e
serving (r.a_node us) f e = absurd (not_true e)
serving (r.a_list us) (t.each f) e = as_list us f e
serving (r.a_list us) f e = absurd (not_true e)
serving r.the_results t.results e = as_results
serving r.the_results f e = absurd (not_true e)
serving r.the_module t.whole_module e = as_module
serving r.the_module f e = absurd (not_true e)
serving (r.a_scope k) (t.type_scope j) e = as_type k j e
serving (r.a_scope k) t.whole_component e = as_whole k e
serving (r.a_scope k) f e = absurd (not_true e)
serving s f e = absurd (not_true e)

abbrev serves_at : List Shape → ℕ → Field → Bool
serves_at [] i f = false
serves_at (s ∷ ss) zero f = serves s f
serves_at (s ∷ ss) (suc i) f = serves_at ss i f

abbrev pieces_served : List Shape → List Piece → Bool
pieces_served ss [] = true
pieces_served ss (byte b ∷ ps) = pieces_served ss ps
pieces_served ss (leaf i f ∷ ps) = serves_at ss i f && pieces_served ss ps
pieces_served ss (limits i ∷ ps) = serves_at ss i t.unsigned && (serves_at ss (suc i) t.maximum && pieces_served ss ps)
pieces_served ss (outer i ∷ ps) = false

-- an outer alias, whose parts hang together, is looked at by itself
abbrev line_served : Line → Bool
line_served l = same_row l.tag rows.AliasOuter || ((length (leaves_of l.tag) == l.leaves) && pieces_served (leaves_of l.tag) l.pieces)

-- by computation: each line spells the leaves of its row
lines_served : (f : Family) → list_all line_served (lines f) ≡ true
lines_served t.types = refl
lines_served _ = refl

-- by computation: each row of a scope that is written has a line there
declared_row : (k : ScopeKind) (u : Row) → (not (may_define k u) || (is_unwritten u || found u (lines (declarations_of k)))) ≡ true → may_define k u ≡ true → form_of_row u ≡ None → found u (lines (declarations_of k)) ≡ true
declared_row k u e h n = go (may_define k u) refl h (is_unwritten u) (ap is_some n) e
  where
    go : (a : Bool) → may_define k u ≡ a → a ≡ true → (b : Bool) → b ≡ false → (not a || (b || found u (lines (declarations_of k)))) ≡ true → found u (lines (declarations_of k)) ≡ true
    go true x y false z w = w
    go true x y true z w = absurd (cc)
    go false x y b z w = absurd (cc)

component_types : (u : Row) → (not (may_define kinds.ComponentType u) || (is_unwritten u || found u (lines t.component_declarations))) ≡ true
component_types rows.CoreModule = refl
component_types _ = refl

instance_types : (u : Row) → (not (may_define kinds.InstanceType u) || (is_unwritten u || found u (lines t.instance_declarations))) ≡ true
instance_types rows.CoreModule = refl
instance_types _ = refl

module_types : (u : Row) → (not (may_define kinds.ModuleType u) || (is_unwritten u || found u (lines t.module_declarations))) ≡ true
module_types rows.CoreModule = refl
module_types _ = refl

components : (u : Row) → (not (may_define kinds.Component u) || (is_unwritten u || (same_row u rows.Producers || found u (lines (rows_of (section_of u)))))) ≡ true
components rows.CoreModule = refl
components _ = refl

-- ---- what holds of each part of a component

lower_none : (a b : Option ℕ) → lower_of a b ≡ None → (a ≡ None) × (b ≡ None)
lower_none None b e = (refl, e)
lower_none (Some n) None e = cc
lower_none (Some n) (Some k) e = cc

held_none : (a b : Option Uncovered) → first_held a b ≡ None → (a ≡ None) × (b ≡ None)
held_none None b e = (refl, e)
held_none (Some x) b e = cc

at_none : (o : ℕ) (a : Option ℕ) → held_at o a ≡ None → a ≡ None
at_none o None e = refl
at_none o (Some n) e = cc

or_second : (a b : Bool) → a ≡ false → (a || b) ≡ true → b ≡ true
or_second true b e h = cc
or_second false b e h = h

module _ (core : CoreModule → Option Uncovered) where
  -- no form that is never written
  abbrev Written : Leaf → Type 0
  Written x = (form_in_leaf x ≡ None) × (uncovered_in_leaf core x ≡ None)

  abbrev AllWritten : Leaves → Type 0
  AllWritten xs = (form_in_leaves xs ≡ None) × (uncovered_in_leaves core xs ≡ None)

  abbrev NodesWritten : Nodes → Type 0
  NodesWritten ns = (form_in_nodes ns ≡ None) × (uncovered_in_nodes core ns ≡ None)

  abbrev LeafLaw : Leaf → Type 0
  LeafLaw x = (f : Field) (s : Shape) → Serves s f → r.ShapedLeaf x s → IsBinaryLeaf x → Written x → short_leaf x ≡ true → FitsLeaf x f

  abbrev LeavesLaw : Leaves → Type 0
  LeavesLaw no_leaf = Unit {0}
  LeavesLaw (x ▸ xs) = LeafLaw x × LeavesLaw xs

  abbrev RowLaw : Row → Leaves → Type 0
  RowLaw u xs = (f : Family) → r.ShapedLeaves xs (leaves_of u) → AreBinaryLeaves xs → AllWritten xs → short_leaves xs ≡ true → same_row u rows.AliasOuter ≡ false → found u (lines f) ≡ true → FitsNode (row u xs) f

  -- ---- leaves without parts

  text_law : (x : List ℕ) → LeafLaw (m.text x)
  text_law x _ _ as_string f b w h = (word (length x)).holds h
  text_law x _ _ as_rest f b w h = tt
  text_law x _ _ as_name f b w h = (word (length x)).holds h
  text_law x _ _ _ f b w h = absurd (not_true f)

  number_law : (n : ℕ) → LeafLaw (m.number n)
  number_law n _ _ as_number f b w h = (word n).holds h
  number_law n _ _ as_async f b w h = (below_two n).holds f
  number_law n _ _ as_flag f b w h = (below_two n).holds f
  number_law n _ _ as_primitive f b w h = (primitive n).holds f
  number_law n _ _ as_value f b w h = (primitive n).holds f
  number_law n _ _ _ f b w h = absurd (not_true f)

  core_sort : (u : Space) → is_space u core_sorts ≡ true → IsCoreSpace u
  core_sort Func h = absurd (not_true h)
  core_sort Value h = absurd (not_true h)
  core_sort Ty h = absurd (not_true h)
  core_sort Component h = absurd (not_true h)
  core_sort Instance h = absurd (not_true h)
  core_sort _ h = tt

  kind_law : (k : Space) → LeafLaw (m.kind k)
  kind_law k _ _ as_kind f b w h = tt
  kind_law k _ _ as_core_kind f b w h = core_sort k f
  kind_law k _ _ _ f b w h = absurd (not_true f)

  core_fits : (v : CoreValue) → IsBinaryValue v → Written (m.core_value v) → short_leaf (m.core_value v) ≡ true → FitsCore v
  core_fits (c.ref_index n i) b w h = (word i).holds h
  core_fits (c.ref_numeral n o i) b w h = b
  core_fits (c.ref_name n q x) b w h = b
  core_fits c.other_value b w h = let x : ◌≡◌ {A = Option ℕ} (Some 6) None = w.0 in cc
  core_fits v b w h = tt

  core_law : (v : CoreValue) → LeafLaw (m.core_value v)
  core_law v _ _ as_core f b w h = core_fits v b w h
  core_law v _ _ as_own_core f b w h = core_fits v b w h
  core_law v _ _ _ f b w h = absurd (not_true f)

  -- of two tests of a space with one
  one_space : (s u v : Space) → same_space s u ≡ true → same_space s v ≡ true → v ≡ u
  one_space s u v e f = sym (same_space-true s v f) ∙ same_space-true s u e

  among : (ss : List Space) → list_all (λ s. is_space s core_sorts) ss ≡ true → (u : Space) → is_space u ss ≡ true → is_space u core_sorts ≡ true
  among [] e u h = absurd (not_true h)
  among (s ∷ ss) e u h =
      let a = and_both (is_space s core_sorts) _ e in
      elim (either _ _ h) [ inl g ↦ subst (λ x. is_space x core_sorts ≡ true) (sym (same_space-true u s g)) a.0 | inr g ↦ among ss a.1 u g ]

  index_law : (u : Space) (i : ℕ) → LeafLaw (m.ref u (m.index i))
  index_law u i _ _ (as_index s v e) f b w h = (one_space s v u e f.0, (word i).holds h)
  index_law u i _ _ (as_reference s v e) f b w h = (one_space s v u e f.0, (word i).holds h)
  index_law u i _ _ (as_function v e) f b w h = (one_space Ty v u e f.0, (word i).holds h)
  index_law u i _ _ (as_component v e) f b w h = (one_space Ty v u e f.0, (word i).holds h)
  index_law u i _ _ (as_instance v e) f b w h = (one_space Ty v u e f.0, (word i).holds h)
  index_law u i _ _ (as_module_type v e) f b w h = (one_space CoreType v u e f.0, (word i).holds h)
  index_law u i _ _ (as_signature v e) f b w h = (one_space CoreType v u e f.0, (word i).holds h)
  index_law u i _ _ (as_core_argument v e) f b w h = (one_space CoreInstance v u e f.0, (word i).holds h)
  index_law u i _ _ (as_core_sorted ss e) f b w h = (core_sort u (among ss e u f.0), (word i).holds h)
  index_law u i _ _ as_sorted f b w h = (word i).holds h
  index_law u i _ _ as_argument f b w h = (word i).holds h
  index_law u i _ _ as_value f b w h = (sym (same_space-true Ty u f.0), (word i).holds h)
  index_law u i _ _ _ f b w h = absurd (not_true f.0)

  reference_law : (u : Space) (x : Target) → LeafLaw (m.ref u x)
  reference_law u (m.index i) = index_law u i
  reference_law u x = λ g s v f b w h. absurd b

  case_law : (i : Option Id) → LeafLaw (m.case_id i)
  case_law i _ _ as_case f b w h = b
  case_law i _ _ _ f b w h = absurd (not_true f)

  results_law : (n : ℕ) → LeafLaw (m.result_count n)
  results_law n _ _ as_results f b w h = (word n).holds h
  results_law n _ _ _ f b w h = absurd (not_true f)

  module_law : (bs : List ℕ) → LeafLaw (m.module_bytes bs)
  module_law bs _ _ as_module f b w h = tt
  module_law bs _ _ _ f b w h = absurd (not_true f)

  place_law : (p : Place) → LeafLaw (m.place p)
  place_law p _ _ as_string f b w h = absurd (not_true f)
  place_law p _ _ _ f b w h = absurd (not_true f)

  absent_law : LeafLaw m.absent
  absent_law _ _ (as_option s g v) f b w h = tt
  absent_law _ _ (as_result s g v) f b w h = tt
  absent_law _ _ as_maximum f b w h = tt
  absent_law _ _ _ f b w h = absurd (not_true f)

  present_law : (x : Leaf) → LeafLaw x → LeafLaw (m.present x)
  present_law x d _ _ (as_option s g v) f b w h = d g s v f.1 b w h
  present_law x d _ _ (as_result s g v) f b w h = d g s v f.1 b w h
  present_law x d _ _ as_maximum f b w h = d t.unsigned r.a_number as_number f.1 b w h
  present_law x d _ _ _ f b w h = absurd (not_true f.0)

  -- ---- the leaves of a row

  leaves_at : (xs : Leaves) (ss : List Shape) → LeavesLaw xs → r.ShapedLeaves xs ss → AreBinaryLeaves xs → AllWritten xs → short_leaves xs ≡ true
      → (i : ℕ) (g : Field) → serves_at ss i g ≡ true → fits_at i g (fits_leaves xs)
  leaves_at no_leaf [] d f b w h i g e = absurd (cc)
  leaves_at no_leaf (s ∷ ss) d f b w h i g e = absurd f
  leaves_at (x ▸ xs) [] d f b w h i g e = absurd f
  leaves_at (x ▸ xs) (s ∷ ss) d f b w h zero g e =
      let p = lower_none (form_in_leaf x) (form_in_leaves xs) w.0 in
      let q = held_none (uncovered_in_leaf core x) (uncovered_in_leaves core xs) w.1 in
      d.0 g s (serving s g e) f.0 b.0 (p.0, q.0) (and_both (short_leaf x) _ h).0
  leaves_at (x ▸ xs) (s ∷ ss) d f b w h (suc i) g e =
      let p = lower_none (form_in_leaf x) (form_in_leaves xs) w.0 in
      let q = held_none (uncovered_in_leaf core x) (uncovered_in_leaves core xs) w.1 in
      leaves_at xs ss d.1 f.1 b.1 (p.1, q.1) (and_both (short_leaf x) _ h).1 i g e

  leaves_length : (xs : Leaves) (ss : List Shape) → r.ShapedLeaves xs ss → length (fits_leaves xs) ≡ length ss
  leaves_length no_leaf [] f = refl
  leaves_length no_leaf (s ∷ ss) f = absurd f
  leaves_length (x ▸ xs) [] f = absurd f
  leaves_length (x ▸ xs) (s ∷ ss) f = ap suc (leaves_length xs ss f.1)

  pieces_fit : (gs : List (Field → Type 0)) (ss : List Shape) → ((i : ℕ) (g : Field) → serves_at ss i g ≡ true → fits_at i g gs) → (ps : List Piece) → pieces_served ss ps ≡ true → FitsPieces ps gs
  pieces_fit gs ss at [] e = tt
  pieces_fit gs ss at (byte b ∷ ps) e = pieces_fit gs ss at ps e
  pieces_fit gs ss at (leaf i g ∷ ps) e = let x = and_both (serves_at ss i g) _ e in (at i g x.0, pieces_fit gs ss at ps x.1)
  pieces_fit gs ss at (limits i ∷ ps) e =
      let x = and_both (serves_at ss i t.unsigned) _ e in
      let y = and_both (serves_at ss (suc i) t.maximum) _ x.1 in
      (at i t.unsigned x.0, at (suc i) t.maximum y.0, pieces_fit gs ss at ps y.1)
  pieces_fit gs ss at (outer i ∷ ps) e = absurd (cc)

  line_fits : (l : Line) (xs : Leaves) → line_served l ≡ true → same_row l.tag rows.AliasOuter ≡ false → LeavesLaw xs → r.ShapedLeaves xs (leaves_of l.tag) → AreBinaryLeaves xs → AllWritten xs → short_leaves xs ≡ true
      → FitsLine (Some l) (fits_leaves xs)
  line_fits l xs e n d f b w h =
      let x = and_both (length (leaves_of l.tag) == l.leaves) _ (or_second (same_row l.tag rows.AliasOuter) _ n e) in
      (leaves_length xs (leaves_of l.tag) f ∙ eqb-true _ _ x.0, pieces_fit (fits_leaves xs) (leaves_of l.tag) (leaves_at xs (leaves_of l.tag) d f b w h) l.pieces x.1)

  lines_fit : (u : Row) (xs : Leaves) (ls : List Line) → list_all line_served ls ≡ true → LeavesLaw xs → r.ShapedLeaves xs (leaves_of u) → AreBinaryLeaves xs → AllWritten xs → short_leaves xs ≡ true
      → same_row u rows.AliasOuter ≡ false → found u ls ≡ true → FitsLine (find u ls) (fits_leaves xs)
  lines_fit u xs [] e d f b w h n k = absurd (cc)
  lines_fit u xs (l ∷ ls) e d f b w h n k = let x = and_both (line_served l) _ e in go (same_row u l.tag) refl k (lines_fit u xs ls x.1 d f b w h n)
    where
      go : (c : Bool) → same_row u l.tag ≡ c → is_some (if c then Some l else find u ls) ≡ true → (found u ls ≡ true → FitsLine (find u ls) (fits_leaves xs)) → FitsLine (if c then Some l else find u ls) (fits_leaves xs)
      go true q k more =
          let same : u ≡ l.tag = same_row-true u l.tag q in
          line_fits l xs (and_both (line_served l) _ e).0 (subst (λ v. same_row v rows.AliasOuter ≡ false) same n) d (subst (λ v. r.ShapedLeaves xs (leaves_of v)) same f) b w h
      go false q k more = more k

  row_law : (u : Row) (xs : Leaves) → LeavesLaw xs → RowLaw u xs
  row_law u xs d g f b w h n k = lines_fit u xs (lines g) (lines_served g) d f b w h n k

  -- ---- outer aliases

  pub record OuterAlias (k : ScopeKind) (xs : Leaves) : Type 0 where
    pub space : Space
    pub leaves : length (fits_leaves xs) ≡ 3
    pub outward : fits_at 0 t.outward (fits_leaves xs)
    pub index : fits_at 1 (t.index_in space) (fits_leaves xs)
    pub kind : fits_at 2 (t.kind_is space) (fits_leaves xs)
    pub right : is_outer_kind k space ≡ true

  outer_alias : (k : ScopeKind) (xs : Leaves) → is_outer_alias k xs ≡ true → AreBinaryLeaves xs → short_leaves xs ≡ true → OuterAlias k xs
  outer_alias k (m.place (c.counted o d) ▸ m.ref s (m.index i) ▸ m.kind q ▸ no_leaf) e b h =
      let x = and_both (same_space s q) _ e in
      let y = and_both (is_outer_kind k s) _ x.1 in
      let p = and_both _ _ h in
      record { space = s; leaves = refl; outward = (b.0, (word d).holds p.0); index = (refl, (word i).holds (and_both _ _ p.1).0); kind = sym (same_space-true s q x.0); right = y.0 }
  outer_alias k (m.place (c.counted o d) ▸ m.ref s x ▸ m.kind q ▸ no_leaf) e b h = absurd b.1.0
  outer_alias k (m.place (c.named o x) ▸ m.ref s y ▸ m.kind q ▸ no_leaf) e b h = absurd b.0
  outer_alias k _ e b h = absurd (not_true e)

  alias_item : (xs : Leaves) → OuterAlias kinds.Component xs → FitsItem (row rows.AliasOuter xs)
  alias_item xs a = (a.leaves, ((a.space, a.outward, a.index, a.kind), tt))

  alias_declared : (k : ScopeKind) (xs : Leaves) → OuterAlias k xs → FitsNode (row rows.AliasOuter xs) (declarations_of k)
  alias_declared kinds.Component xs a = (a.leaves, ((a.space, a.outward, a.index, a.kind), tt))
  alias_declared kinds.ComponentType xs a = (a.leaves, ((a.space, a.outward, a.index, a.kind), tt))
  alias_declared kinds.InstanceType xs a = (a.leaves, ((a.space, a.outward, a.index, a.kind), tt))
  alias_declared kinds.ModuleType xs a =
      let s : CoreType ≡ a.space = sym (same_space-true a.space CoreType a.right) in
      (a.leaves, (a.outward, (subst (λ v. fits_at 1 (t.index_in v) (fits_leaves xs)) (sym s) a.index, (subst (λ v. fits_at 2 (t.kind_is v) (fits_leaves xs)) (sym s) a.kind, tt))))

  -- ---- nodes

  false_of : (a : Bool) → not a ≡ true → a ≡ false
  false_of true e = cc
  false_of false e = refl

  -- a row among those of a shape
  row_of : (u : Row) (us : List Row) (f : Family) → is_row u us ≡ true → rows_found us f ≡ true → form_of_row u ≡ None → (same_row u rows.AliasOuter ≡ false) × (found u (lines f) ≡ true)
  row_of u [] f h e n = absurd (cc)
  row_of u (v ∷ us) f h e n =
      let x = and_both (not (same_row v rows.AliasOuter) && (is_unwritten v || found v (lines f))) _ e in
      elim (either _ _ h) [
        | inl g ↦
            let same : v ≡ u = sym (same_row-true u v g) in
            let y = and_both (not (same_row v rows.AliasOuter)) _ x.0 in
            (false_of (same_row u rows.AliasOuter) (subst (λ k. not (same_row k rows.AliasOuter) ≡ true) same y.0), or_second (is_unwritten u) _ (ap is_some n) (subst (λ k. (is_unwritten k || found k (lines f)) ≡ true) same y.1))
        | inr g ↦ row_of u us f g x.1 n
      ]

  attributed : (u : Row) → is_row u (rows.AttributedName ∷ []) ≡ true → form_of_row u ≡ None → ⊥
  attributed u h n = elim (either _ _ h) [
    | inl g ↦ (let e : form_of_row rows.AttributedName ≡ None = subst (λ k. form_of_row k ≡ None) (same_row-true u rows.AttributedName g) n in cc)
    | inr g ↦ cc
  ]

  node_law : (u : Row) (xs : Leaves) → RowLaw u xs → LeafLaw (m.node (row u xs))
  node_law u xs d _ _ (as_node us g e) f b w h =
      let p = lower_none (form_of_row u) (form_in_leaves xs) w.0 in
      let k = row_of u us g f.0 e p.0 in
      d g f.1 b (p.1, w.1) (or_second (is_unwritten u) _ (ap is_some p.0) h) k.0 k.1
  node_law u xs d _ _ as_name f b w h = absurd (attributed u f.0 (lower_none (form_of_row u) (form_in_leaves xs) w.0).0)
  node_law u xs d _ _ _ f b w h = absurd (not_true f.0)

  abbrev NodesLaw : Nodes → Type 0
  NodesLaw ns = (f : Family) (us : List Row) → rows_found us f ≡ true → r.ShapedNodes ns us → AreBinaryNodes ns → NodesWritten ns → short_nodes ns ≡ true → FitsNodes ns f

  nodes_step : (u : Row) (xs : Leaves) (ns : Nodes) → RowLaw u xs → NodesLaw ns → NodesLaw (one_node (row u xs) ns)
  nodes_step u xs ns d more g us e f b w h =
      let p = lower_none (lower_of (form_of_row u) (form_in_leaves xs)) (form_in_nodes ns) w.0 in
      let v = lower_none (form_of_row u) (form_in_leaves xs) p.0 in
      let q = held_none (uncovered_in_leaves core xs) (uncovered_in_nodes core ns) w.1 in
      let y = and_both (is_unwritten u || short_leaves xs) _ h in
      let k = row_of u us g f.0 e v.0 in
      (d g f.1 b.0 (v.1, q.0) (or_second (is_unwritten u) _ (ap is_some v.0) y.0) k.0 k.1, more g us e f.2 b.1 (p.1, q.1) y.1)

  nodes_law : (ns : Nodes) → NodesLaw ns → LeafLaw (m.nodes ns)
  nodes_law ns d _ _ (as_list us g e) f b w h = let x = and_both _ _ h in ((word _).holds x.0, d g us e f.1 b w x.1)
  nodes_law ns d _ _ _ f b w h = absurd (not_true f.0)

  -- ---- the definitions of a scope

  abbrev DefsLaw : Defs → Type 0
  DefsLaw no_def = Unit {0}
  DefsLaw (one_def (define names (row u xs)) ds) = RowLaw u xs × DefsLaw ds

  module _ (k : ScopeKind) (test : (u : Row) → (not (may_define k u) || (is_unwritten u || found u (lines (declarations_of k)))) ≡ true) where
    declaration_law : (u : Row) (xs : Leaves) → RowLaw u xs → may_define k u ≡ true → fits_together k u xs ≡ true → r.ShapedLeaves xs (leaves_of u) → AreBinaryLeaves xs → form_of_row u ≡ None → AllWritten xs → short_leaves xs ≡ true
        → FitsNode (row u xs) (declarations_of k)
    declaration_law u xs d m y f b n w h = go (same_row u rows.AliasOuter) refl
      where
        go : (a : Bool) → same_row u rows.AliasOuter ≡ a → FitsNode (row u xs) (declarations_of k)
        go true q =
            let same : u ≡ rows.AliasOuter = same_row-true u rows.AliasOuter q in
            subst (λ v. FitsNode (row v xs) (declarations_of k)) (sym same) (alias_declared k xs (outer_alias k xs (subst (λ v. fits_together k v xs ≡ true) same y) b h))
        go false q = d (declarations_of k) f b w h q (declared_row k u (test u) m n)

    declarations_law : (ds : Defs) → DefsLaw ds → ShapedDefs ds k → AreBinaryDefs ds → uncovered_in_defs core ds ≡ None → short_defs ds ≡ true → FitsDeclarations ds (declarations_of k)
    declarations_law no_def d f b w h = tt
    declarations_law (one_def (define names (row u xs)) ds) d f b w h =
        let p = held_none (held_at names.offset (lower_of (form_of_row u) (form_in_leaves xs))) (first_held (uncovered_in_leaves core xs) (uncovered_in_defs core ds)) w in
        let q = held_none (uncovered_in_leaves core xs) (uncovered_in_defs core ds) p.1 in
        let v = lower_none (form_of_row u) (form_in_leaves xs) (at_none names.offset _ p.0) in
        let x = and_both (may_define k u) _ f.0 in
        let y = and_both (is_unwritten u || short_leaves xs) _ h in
        ((b.0, declaration_law u xs d.0 x.0 x.1 f.1 b.2 v.0 (v.1, q.0) (or_second (is_unwritten u) _ (ap is_some v.0) y.0)), declarations_law ds d.1 f.2 b.3 q.1 y.1)

  other_tag : (u v : Row) → u ≢ v → same_row u v ≡ false
  other_tag u v n = go (same_row u v) refl
    where
      go : (a : Bool) → same_row u v ≡ a → a ≡ false
      go true q = absurd (n (same_row-true u v q))
      go false q = refl

  component_row : (u : Row) → may_define kinds.Component u ≡ true → form_of_row u ≡ None → u ≢ rows.Producers → found u (lines (rows_of (section_of u))) ≡ true
  component_row u h n p = go (may_define kinds.Component u) refl h (is_unwritten u) (ap is_some n) (same_row u rows.Producers) (other_tag u rows.Producers p) (components u)
    where
      go : (a : Bool) → may_define kinds.Component u ≡ a → a ≡ true → (b : Bool) → b ≡ false → (d : Bool) → d ≡ false → (not a || (b || (d || found u (lines (rows_of (section_of u)))))) ≡ true → found u (lines (rows_of (section_of u))) ≡ true
      go true x y false z false v w = w
      go true x y false z true v w = absurd (cc)
      go true x y true z d v w = absurd (cc)
      go false x y b z d v w = absurd (cc)

  definition_law : (u : Row) (xs : Leaves) → RowLaw u xs → may_define kinds.Component u ≡ true → fits_together kinds.Component u xs ≡ true → u ≢ rows.Producers → r.ShapedLeaves xs (leaves_of u) → AreBinaryLeaves xs → form_of_row u ≡ None → AllWritten xs
      → short_leaves xs ≡ true → FitsItem (row u xs)
  definition_law u xs d m y p f b n w h = go (same_row u rows.AliasOuter) refl
    where
      go : (a : Bool) → same_row u rows.AliasOuter ≡ a → FitsItem (row u xs)
      go true q =
          let same : u ≡ rows.AliasOuter = same_row-true u rows.AliasOuter q in
          subst (λ v. FitsItem (row v xs)) (sym same) (alias_item xs (outer_alias kinds.Component xs (subst (λ v. fits_together kinds.Component v xs ≡ true) same y) b h))
      go false q = d (rows_of (section_of u)) f b w h q (component_row u m n p)

  definitions_law : (ds : Defs) → DefsLaw ds → ShapedDefs ds kinds.Component → AreBinaryDefs ds → uncovered_in_defs core ds ≡ None → short_defs ds ≡ true → FitsDefinitions ds
  definitions_law no_def d f b w h = tt
  definitions_law (one_def (define names (row u xs)) ds) d f b w h =
      let p = held_none (held_at names.offset (lower_of (form_of_row u) (form_in_leaves xs))) (first_held (uncovered_in_leaves core xs) (uncovered_in_defs core ds)) w in
      let q = held_none (uncovered_in_leaves core xs) (uncovered_in_defs core ds) p.1 in
      let v = lower_none (form_of_row u) (form_in_leaves xs) (at_none names.offset _ p.0) in
      let x = and_both (may_define kinds.Component u) _ f.0 in
      let y = and_both (is_unwritten u || short_leaves xs) _ h in
      ((b.0, definition_law u xs d.0 x.0 x.1 b.1 f.1 b.2 v.0 (v.1, q.0) (or_second (is_unwritten u) _ (ap is_some v.0) y.0)), definitions_law ds d.1 f.2 b.3 q.1 y.1)

  -- ---- scopes

  abbrev ScopeLaw : Scope → Type 0
  ScopeLaw (scope_of k id label ds) = DefsLaw ds

  component_law : (s : Scope) → ScopeLaw s → kind_of s ≡ kinds.Component → FitsRows s → IsBinary s → first_uncovered core s ≡ None → is_short s ≡ true → FitsSections s
  component_law (scope_of kinds.Component id label ds) d k f b w h = let x = and_both (short_defs ds) _ h in (refl, b.0, b.1, definitions_law ds d f b.2 w x.0, (short _).holds x.1)
  component_law (scope_of kinds.ComponentType id label ds) d k f b w h = absurd (cc)
  component_law (scope_of kinds.InstanceType id label ds) d k f b w h = absurd (cc)
  component_law (scope_of kinds.ModuleType id label ds) d k f b w h = absurd (cc)

  type_law : (k : ScopeKind) → same_kind k k ≡ true → (id : Option Id) (label : Option c.Text) (ds : Defs) → DefsLaw ds → ShapedDefs ds k → IsBinary (scope_of k id label ds) → uncovered_in_defs core ds ≡ None → is_short (scope_of k id label ds) ≡ true
      → FitsTypeScope (scope_of k id label ds) k
  type_law kinds.Component e id label ds d f b w h = absurd (cc)
  type_law kinds.ComponentType e id label ds d f b w h = let x = and_both (short_defs ds) _ h in (refl, b.0, b.1, (word _).holds x.1, declarations_law kinds.ComponentType component_types ds d f b.2 w x.0)
  type_law kinds.InstanceType e id label ds d f b w h = let x = and_both (short_defs ds) _ h in (refl, b.0, b.1, (word _).holds x.1, declarations_law kinds.InstanceType instance_types ds d f b.2 w x.0)
  type_law kinds.ModuleType e id label ds d f b w h = let x = and_both (short_defs ds) _ h in (refl, b.0, b.1, (word _).holds x.1, declarations_law kinds.ModuleType module_types ds d f b.2 w x.0)

  kind_same : (k j : ScopeKind) → same_kind k j ≡ true → (k ≡ j) × (same_kind k k ≡ true)
  kind_same kinds.ComponentType kinds.ComponentType e = (refl, refl)
  kind_same kinds.InstanceType kinds.InstanceType e = (refl, refl)
  kind_same kinds.ModuleType kinds.ModuleType e = (refl, refl)
  kind_same _ _ e = absurd (cc)

  kind_held : (k j : ScopeKind) → r.has_scope (r.a_scope k) j ≡ true → k ≡ j
  kind_held kinds.Component kinds.Component e = refl
  kind_held kinds.ComponentType kinds.ComponentType e = refl
  kind_held kinds.InstanceType kinds.InstanceType e = refl
  kind_held kinds.ModuleType kinds.ModuleType e = refl
  kind_held _ _ e = absurd (cc)

  component_kind : (k : ScopeKind) → is_a_component k ≡ true → k ≡ kinds.Component
  component_kind kinds.Component e = refl
  component_kind _ e = absurd (cc)

  scope_leaf : (x : Scope) → ScopeLaw x → LeafLaw (m.scope x)
  scope_leaf (scope_of l id label ds) d _ _ (as_type k j e) f b w h =
      let x = kind_same k j e in
      let y : k ≡ l = kind_held k l f.0 in
      let z : l ≡ j = sym y ∙ x.0 in
      subst (FitsTypeScope (scope_of l id label ds)) z (type_law l (subst (λ v. same_kind v v ≡ true) y x.1) id label ds d f.1 b w.1 h)
  scope_leaf (scope_of l id label ds) d _ _ (as_whole k e) f b w h =
      component_law (scope_of l id label ds) d (sym (kind_held k l f.0) ∙ component_kind k e) f.1 b w.1 h
  scope_leaf (scope_of l id label ds) d _ _ _ f b w h = absurd (not_true f.0)

  -- the induction: one line for each kind of leaf
  mutual
    leaf_all : (x : Leaf) → LeafLaw x
    leaf_all (m.text x) = text_law x
    leaf_all (m.number n) = number_law n
    leaf_all (m.kind k) = kind_law k
    leaf_all (m.core_value v) = core_law v
    leaf_all (m.ref u x) = reference_law u x
    leaf_all (m.place p) = place_law p
    leaf_all m.absent = absent_law
    leaf_all (m.present x) = present_law x (leaf_all x)
    leaf_all (m.node (row u xs)) = node_law u xs (row_law u xs (leaves_all xs))
    leaf_all (m.nodes ns) = nodes_law ns (nodes_all ns)
    leaf_all (m.case_id i) = case_law i
    leaf_all (m.result_ids is) = λ f s e g b w h. absurd b
    leaf_all (m.result_count n) = results_law n
    leaf_all (m.core_source x) = λ f s e g b w h. absurd b
    leaf_all (m.module_bytes bs) = module_law bs
    leaf_all (m.scope x) = scope_leaf x (scope_all x)

    leaves_all : (xs : Leaves) → LeavesLaw xs
    leaves_all no_leaf = tt
    leaves_all (x ▸ xs) = (leaf_all x, leaves_all xs)

    nodes_all : (ns : Nodes) → NodesLaw ns
    nodes_all no_node = λ f us e g b w h. tt
    nodes_all (one_node (row u xs) ns) = nodes_step u xs ns (row_law u xs (leaves_all xs)) (nodes_all ns)

    defs_all : (ds : Defs) → DefsLaw ds
    defs_all no_def = tt
    defs_all (one_def (define names (row u xs)) ds) = (row_law u xs (leaves_all xs), defs_all ds)

    scope_all : (s : Scope) → ScopeLaw s
    scope_all (scope_of k id label ds) = defs_all ds

  pub rows_fit : (s : Scope) → kind_of s ≡ kinds.Component → FitsRows s → IsBinary s → first_uncovered core s ≡ None → is_short s ≡ true → FitsSections s
  rows_fit s = component_law s (scope_all s)
