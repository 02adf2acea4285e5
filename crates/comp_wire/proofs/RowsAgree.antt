-- What is read fits the table of rows: a test of both tables by computation, and an induction on the model.
use Rattle.std.proofs.Common.{◌≡◌, ℕ, zero, suc, ◌<◌, List, [], ◌∷◌, length, refl, sym, ◌∙◌, ap, subst, arith, Bool, true, false, ◌&&◌, Option}
use Rattle.std.specs.Prelude.{◌==◌}
use Rattle.std.specs.List.{list_all}
use Rattle.std.proofs.lemmas.Bool.{eqb-true}
use Rattle.comp_model.specs.declared.Space.{Space}
use Rattle.comp_model.specs.declared.Space.TheVariants.{CoreType, Func, Value, Ty, Component, Instance}
use Rattle.comp_model.specs.Core as c
use Rattle.comp_model.specs.Core.{Id, CoreValue, Place}
use Rattle.comp_model.specs.declared.row.Row.TheVariants as rows
use Rattle.comp_model.specs.declared.row.Row.{Row}
use Rattle.comp_model.specs.RowNumbers.{is_row}
use Rattle.comp_model.specs.Model as m
use Rattle.comp_model.specs.declared.row.ScopeKind.TheVariants as kinds
use Rattle.comp_model.specs.Model.{Leaf, Leaves, no_leaf, ◌▸◌, Node, row, Nodes, no_node, one_node, define, Defs, no_def, one_def, Scope, scope_of, Target}
use Rattle.comp_model.specs.declared.row.ScopeKind.{ScopeKind}
use Rattle.comp_model.specs.Spaces.{all_spaces}
use Rattle.comp_model.specs.Rows as r
use Rattle.comp_model.specs.Rows.{Shape, leaves_of, core_sorts, is_space, may_define, fits_space, fits_number, fits_kind, fits_value, is_outer_kind, is_outer_alias, fits_together, is_text, is_optional, the_option, rows_of_node, rows_of_list, has_scope, is_list, is_kind, is_core_value, is_place, is_case_id, is_results, is_module, ShapedDefs, FitsRows}
use Rattle.comp_model.proofs.Tests.{same_space-refl}
use Rattle.comp_wire.specs.Table as t
use Rattle.comp_wire.specs.Table.{Family, Field, Line, lines}
use Rattle.comp_wire.specs.declared.sections.SectionKind.{SectionKind}
use Rattle.comp_wire.specs.declared.sections.SectionKind.TheVariants as section_kinds
use Rattle.comp_wire.specs.Sections.{section_of, rows_of}
use Rattle.comp_wire.specs.Spelled.{declarations_of, IsCoreSpace, IsPrimitive, FitsCore, fits_at, FitsLeaf, fits_leaves, FitsNode, FitsNodes, FitsDeclarations, FitsDefinitions, FitsSections}
use Rattle.comp_wire.proofs.Groups.{and_both}
use Rattle.comp_wire.proofs.FitsTest.{both, primitive, below_two}
use Rattle.comp_wire.proofs.Binary.{space_passes, is_any_space, each_spelled, Found, each_found, line_of}

-- a number of any size, a flag, the code of a primitive type, a value type, any kind
abbrev pub is_any_number : Shape → Bool
is_any_number r.a_number = true
is_any_number _ = false

abbrev is_flag : Shape → Bool
is_flag r.a_flag = true
is_flag _ = false

abbrev is_primitive : Shape → Bool
is_primitive r.a_primitive = true
is_primitive _ = false

abbrev is_value : Shape → Bool
is_value r.a_value_type = true
is_value _ = false

abbrev is_any_kind : Shape → Bool
is_any_kind r.a_kind = true
is_any_kind _ = false

-- whether a leaf that this field spells is always of this shape; no leaf fits the last two fields, which stand in pieces of several leaves
abbrev agrees : Field → Shape → Bool
agrees t.unsigned s = is_any_number s
agrees (t.index_in u) s = fits_space s u
agrees t.outward s = is_place s
agrees t.results s = is_results s
agrees t.sort s = is_any_kind s
agrees t.core_sort s = is_kind s
agrees (t.kind_is u) s = fits_kind s u
agrees t.sorted_index s = list_all (fits_space s) all_spaces
agrees t.core_sorted_index s = list_all (fits_space s) core_sorts
agrees t.string s = is_text s
agrees t.extern_name s = is_text s
agrees t.primitive_byte s = is_primitive s
agrees t.value s = is_value s
agrees (t.optional f) s = is_optional s && agrees f (the_option s)
agrees (t.result f) s = is_optional s && agrees f (the_option s)
agrees t.async_byte s = is_flag s
agrees t.flag s = is_flag s
agrees t.unspelled s = is_case_id s
agrees (t.one f) s = list_all (λ l. is_row l.tag (rows_of_node s)) (lines f)
agrees (t.each f) s = is_list s && list_all (λ l. is_row l.tag (rows_of_list s)) (lines f)
agrees t.core_type s = is_core_value s
agrees t.maximum s = is_optional s && is_any_number (the_option s)
agrees (t.type_scope k) s = has_scope s k && list_all (λ l. may_define k l.tag) (lines (declarations_of k))
agrees t.whole_component s = has_scope s kinds.Component
agrees t.whole_module s = is_module s
agrees t.rest s = is_text s
agrees t.any_index s = false
agrees t.presence s = false

abbrev agrees_at : List Shape → ℕ → Field → Bool
agrees_at [] i f = false
agrees_at (s ∷ ss) zero f = agrees f s
agrees_at (s ∷ ss) (suc i) f = agrees_at ss i f

-- whether a line has as many leaves as its row, and spells each of them as its shape is
abbrev line_agrees : Line → Bool
line_agrees l = (length (leaves_of l.tag) == l.leaves) && each_spelled (agrees_at (leaves_of l.tag)) l.leaves l.pieces

-- the two tables agree: by computation
tables_agree : (f : Family) → list_all line_agrees (lines f) ≡ true
tables_agree t.types = refl
tables_agree _ = refl

-- the rows of a section are rows of a component: by computation
sections_agree : (s : SectionKind) → list_all (λ l. may_define kinds.Component l.tag) (lines (rows_of s)) ≡ true
sections_agree section_kinds.Custom = refl
sections_agree _ = refl

-- Each kind of leaf.
abbrev LeafShaped : Leaf → Type 0
LeafShaped x = (f : Field) (s : Shape) → agrees f s ≡ true → FitsLeaf x f → r.ShapedLeaf x s

text_shaped : (x : List ℕ) → LeafShaped (m.text x)
text_shaped x t.string s e h = e
text_shaped x t.extern_name s e h = e
text_shaped x t.rest s e h = e
text_shaped x f s e h = absurd h

any_number_fits : (s : Shape) (n : ℕ) → is_any_number s ≡ true → fits_number s n ≡ true
any_number_fits r.a_number n e = refl
any_number_fits s n e = absurd (cc)

flag_fits : (s : Shape) (n : ℕ) → is_flag s ≡ true → n < 2 → fits_number s n ≡ true
flag_fits r.a_flag n e h = (below_two n).passes h
flag_fits s n e h = absurd (cc)

primitive_fits : (s : Shape) (n : ℕ) → is_primitive s ≡ true → IsPrimitive n → fits_number s n ≡ true
primitive_fits r.a_primitive n e h = (primitive n).passes h
primitive_fits s n e h = absurd (cc)

value_fits : (s : Shape) (n : ℕ) → is_value s ≡ true → IsPrimitive n → fits_number s n ≡ true
value_fits r.a_value_type n e h = (primitive n).passes h
value_fits s n e h = absurd (cc)

value_space : (s : Shape) → is_value s ≡ true → fits_space s Ty ≡ true
value_space r.a_value_type e = refl
value_space s e = absurd (cc)

number_shaped : (n : ℕ) → LeafShaped (m.number n)
number_shaped n t.unsigned s e h = any_number_fits s n e
number_shaped n t.primitive_byte s e h = primitive_fits s n e h
number_shaped n t.value s e h = value_fits s n e h
number_shaped n t.async_byte s e h = flag_fits s n e h
number_shaped n t.flag s e h = flag_fits s n e h
number_shaped n f s e h = absurd h

any_kind_fits : (s : Shape) (k : Space) → is_any_kind s ≡ true → fits_kind s k ≡ true
any_kind_fits r.a_kind k e = refl
any_kind_fits s k e = absurd (cc)

core_kind_fits : (s : Shape) (k : Space) → is_kind s ≡ true → is_space k core_sorts ≡ true → fits_kind s k ≡ true
core_kind_fits r.a_kind k e h = refl
core_kind_fits r.a_core_kind k e h = h
core_kind_fits s k e h = absurd (cc)

is_core_sort : (u : Space) → IsCoreSpace u → is_space u core_sorts ≡ true
is_core_sort Func h = absurd h
is_core_sort Value h = absurd h
is_core_sort Ty h = absurd h
is_core_sort Component h = absurd h
is_core_sort Instance h = absurd h
is_core_sort _ h = refl

kind_shaped : (k : Space) → LeafShaped (m.kind k)
kind_shaped k t.sort s e h = any_kind_fits s k e
kind_shaped k t.core_sort s e h = core_kind_fits s k e (is_core_sort k h)
kind_shaped k (t.kind_is u) s e h = subst (λ v. fits_kind s v ≡ true) (sym h) e
kind_shaped k f s e h = absurd h

core_fits : (v : CoreValue) (s : Shape) → FitsCore v → is_core_value s ≡ true → fits_value s v ≡ true
core_fits (c.ref_name b q x) s h e = absurd h
core_fits v s h e = rw e refl

core_shaped : (v : CoreValue) → LeafShaped (m.core_value v)
core_shaped v t.core_type s e h = core_fits v s h e
core_shaped v f s e h = absurd h

place_shaped : (p : Place) → LeafShaped (m.place p)
place_shaped p t.outward s e h = e
place_shaped p f s e h = absurd h

count_shaped : (n : ℕ) → LeafShaped (m.result_count n)
count_shaped n t.results s e h = e
count_shaped n f s e h = absurd h

case_shaped : (i : Option Id) → LeafShaped (m.case_id i)
case_shaped i t.unspelled s e h = e
case_shaped i f s e h = absurd h

module_shaped : (bs : List ℕ) → LeafShaped (m.module_bytes bs)
module_shaped bs t.whole_module s e h = e
module_shaped bs f s e h = absurd h

reference_shaped : (u : Space) (x : Target) → LeafShaped (m.ref u x)
reference_shaped u (m.index i) (t.index_in v) s e h = (subst (λ w. fits_space s w ≡ true) (sym h.0) e, tt)
reference_shaped u (m.index i) t.sorted_index s e h = (space_passes (fits_space s) all_spaces e u (is_any_space u), tt)
reference_shaped u (m.index i) t.core_sorted_index s e h = (space_passes (fits_space s) core_sorts e u (is_core_sort u h.0), tt)
reference_shaped u (m.index i) t.value s e h = (subst (λ w. fits_space s w ≡ true) (sym h.0) (value_space s e), tt)
reference_shaped u x (t.index_in v) s e h = absurd h
reference_shaped u x t.sorted_index s e h = absurd h
reference_shaped u x t.core_sorted_index s e h = absurd h
reference_shaped u x t.value s e h = absurd h
reference_shaped u x f s e h = absurd h

absent_shaped : LeafShaped m.absent
absent_shaped (t.optional f) s e h = (and_both (is_optional s) _ e).0
absent_shaped (t.result f) s e h = (and_both (is_optional s) _ e).0
absent_shaped t.maximum s e h = (and_both (is_optional s) _ e).0
absent_shaped f s e h = absurd h

present_shaped : (x : Leaf) → LeafShaped x → LeafShaped (m.present x)
present_shaped x d (t.optional f) s e h = let tests = and_both (is_optional s) _ e in (tests.0, d f (the_option s) tests.1 h)
present_shaped x d (t.result f) s e h = let tests = and_both (is_optional s) _ e in (tests.0, d f (the_option s) tests.1 h)
present_shaped x d t.maximum s e h = let tests = and_both (is_optional s) _ e in (tests.0, d t.unsigned (the_option s) tests.1 h)
present_shaped x d f s e h = absurd h

-- The leaves of a row, and what a test of tags says of a row of a family.
abbrev LeavesShaped : Leaves → Type 0
LeavesShaped no_leaf = Unit {0}
LeavesShaped (x ▸ xs) = LeafShaped x × LeavesShaped xs

leaves_shaped : (xs : Leaves) (ss : List Shape) → LeavesShaped xs → length (fits_leaves xs) ≡ length ss
    → ((i : ℕ) → i < length ss → Found (agrees_at ss) i (fits_leaves xs)) → r.ShapedLeaves xs ss
leaves_shaped no_leaf [] d l h = tt
leaves_shaped no_leaf (s ∷ ss) d l h = absurd (omega arith)
leaves_shaped (x ▸ xs) [] d l h = absurd (omega arith)
leaves_shaped (x ▸ xs) (s ∷ ss) d l h =
    (let here = h 0 (omega arith) in d.0 here.field s here.passes here.fits, leaves_shaped xs ss d.1 (omega arith) (λ i k. behind i (h (suc i) (omega arith))))
  where
    behind : (i : ℕ) → Found (agrees_at (s ∷ ss)) (suc i) (FitsLeaf x ∷ fits_leaves xs) → Found (agrees_at ss) i (fits_leaves xs)
    behind i r = record { field = r.field; passes = r.passes; fits = r.fits }

abbrev RowShaped : Node → Type 0
RowShaped (row u xs) = (f : Family) → FitsNode (row u xs) f → r.ShapedLeaves xs (leaves_of u)

row_shaped : (u : Row) (xs : Leaves) → LeavesShaped xs → RowShaped (row u xs)
row_shaped u xs d f h =
    let l = line_of line_agrees (lines f) u (fits_leaves xs) (tables_agree f) h in
    let ss = leaves_of l.line.tag in
    let tests = and_both (length ss == l.line.leaves) _ l.passes in
    let same : length ss ≡ l.line.leaves = eqb-true _ _ tests.0 in
    let places = each_found (agrees_at ss) l.line.leaves l.line.pieces (fits_leaves xs) tests.1 l.pieces in
    subst (λ v. r.ShapedLeaves xs (leaves_of v)) l.of_row (leaves_shaped xs ss d (l.leaves ∙ sym same) (λ i k. places i (omega (arith, same))))

tag_passes : (p : Row → Bool) (f : Family) (u : Row) (xs : Leaves) → list_all (λ l. p l.tag) (lines f) ≡ true → FitsNode (row u xs) f → p u ≡ true
tag_passes p f u xs e h = let l = line_of (λ l. p l.tag) (lines f) u (fits_leaves xs) e h in subst (λ v. p v ≡ true) l.of_row l.passes

-- A node and a list of nodes.
node_shaped : (n : Node) → RowShaped n → LeafShaped (m.node n)
node_shaped (row u xs) d (t.one f) s e h = (tag_passes (λ v. is_row v (rows_of_node s)) f u xs e h, d f h)
node_shaped (row u xs) d f s e h = absurd h

abbrev NodesShaped : Nodes → Type 0
NodesShaped ns = (f : Family) (ts : List Row) → list_all (λ l. is_row l.tag ts) (lines f) ≡ true → FitsNodes ns f → r.ShapedNodes ns ts

nodes_step : (n : Node) (ns : Nodes) → RowShaped n → NodesShaped ns → NodesShaped (one_node n ns)
nodes_step (row u xs) ns d others f ts e h = (tag_passes (λ v. is_row v ts) f u xs e h.0, d f h.0, others f ts e h.1)

nodes_shaped : (ns : Nodes) → NodesShaped ns → LeafShaped (m.nodes ns)
nodes_shaped ns d (t.each f) s e h = let tests = and_both (is_list s) _ e in (tests.0, d f (rows_of_list s) tests.1 h.1)
nodes_shaped ns d f s e h = absurd h

-- The definitions of a scope, in a type and in a component.
abbrev DefsShaped : Defs → Type 0
DefsShaped no_def = Unit {0}
DefsShaped (one_def (define names n) ds) = RowShaped n × DefsShaped ds

-- an outer alias: its kind is the space of its reference, in the type of a core module that of core types
place_leaf : (x : Leaf) → FitsLeaf x t.outward → (p : Place) × (x ≡ m.place p)
place_leaf (m.place p) h = (p, refl)
place_leaf (m.ref u (m.index i)) h = absurd h
place_leaf (m.ref u x) h = absurd h
place_leaf x h = absurd h

index_leaf : (x : Leaf) (s : Space) → FitsLeaf x (t.index_in s) → (i : ℕ) × (x ≡ m.ref s (m.index i))
index_leaf (m.ref u (m.index i)) s h = (i, ap (λ v. m.ref v (m.index i)) h.0)
index_leaf (m.ref u x) s h = absurd h
index_leaf x s h = absurd h

kind_leaf : (x : Leaf) (s : Space) → FitsLeaf x (t.kind_is s) → x ≡ m.kind s
kind_leaf (m.kind k) s h = ap m.kind h
kind_leaf (m.ref u (m.index i)) s h = absurd h
kind_leaf (m.ref u x) s h = absurd h
kind_leaf x s h = absurd h

outer_alias : (k : ScopeKind) (s : Space) → is_outer_kind k s ≡ true → (xs : Leaves) → length (fits_leaves xs) ≡ 3
    → fits_at 0 t.outward (fits_leaves xs) → fits_at 1 (t.index_in s) (fits_leaves xs) → fits_at 2 (t.kind_is s) (fits_leaves xs) → is_outer_alias k xs ≡ true
outer_alias k s e no_leaf l p i q = absurd p
outer_alias k s e (x ▸ no_leaf) l p i q = absurd i
outer_alias k s e (x ▸ y ▸ no_leaf) l p i q = absurd q
outer_alias k s e (x ▸ y ▸ z ▸ no_leaf) l p i q =
    let a = place_leaf x p in
    let b = index_leaf y s i in
    rw (a.1, b.1, kind_leaf z s q, same_space-refl s, e) refl
outer_alias k s e (x ▸ y ▸ z ▸ w ▸ xs) l p i q = absurd (omega (arith, l))

together : (k : ScopeKind) (u : Row) (xs : Leaves) → (u ≡ rows.AliasOuter → is_outer_alias k xs ≡ true) → fits_together k u xs ≡ true
together k rows.AliasOuter xs h = h refl
together k _ xs h = refl

alias_declared : (k : ScopeKind) (xs : Leaves) → FitsNode (row rows.AliasOuter xs) (declarations_of k) → is_outer_alias k xs ≡ true
alias_declared kinds.Component xs h = outer_alias kinds.Component h.1.0.0 refl xs h.0 h.1.0.1 h.1.0.2 h.1.0.3
alias_declared kinds.ComponentType xs h = outer_alias kinds.ComponentType h.1.0.0 refl xs h.0 h.1.0.1 h.1.0.2 h.1.0.3
alias_declared kinds.InstanceType xs h = outer_alias kinds.InstanceType h.1.0.0 refl xs h.0 h.1.0.1 h.1.0.2 h.1.0.3
alias_declared kinds.ModuleType xs h = outer_alias kinds.ModuleType CoreType refl xs h.0 h.1.0 h.1.1.0 h.1.1.1.0

declared_together : (k : ScopeKind) (u : Row) (xs : Leaves) → FitsNode (row u xs) (declarations_of k) → fits_together k u xs ≡ true
declared_together k u xs h = together k u xs (λ e. alias_declared k xs (subst (λ v. FitsNode (row v xs) (declarations_of k)) e h))

defined_together : (u : Row) (xs : Leaves) → FitsNode (row u xs) (rows_of (section_of u)) → fits_together kinds.Component u xs ≡ true
defined_together u xs h =
    together kinds.Component u xs (λ e. let g : FitsNode (row rows.AliasOuter xs) t.aliases = subst (λ v. FitsNode (row v xs) (rows_of (section_of v))) e h in outer_alias kinds.Component g.1.0.0 refl xs g.0 g.1.0.1 g.1.0.2 g.1.0.3)

declarations_shaped : (k : ScopeKind) → list_all (λ l. may_define k l.tag) (lines (declarations_of k)) ≡ true
    → (ds : Defs) → DefsShaped ds → FitsDeclarations ds (declarations_of k) → ShapedDefs ds k
declarations_shaped k e no_def d h = tt
declarations_shaped k e (one_def (define names (row u xs)) ds) d h =
    let f = declarations_of k in
    (both (may_define k u) (fits_together k u xs) (tag_passes (may_define k) f u xs e h.0.1) (declared_together k u xs h.0.1), d.0 f h.0.1, declarations_shaped k e ds d.1 h.1)

definitions_shaped : (ds : Defs) → DefsShaped ds → FitsDefinitions ds → ShapedDefs ds kinds.Component
definitions_shaped no_def d h = tt
definitions_shaped (one_def (define names (row u xs)) ds) d h =
    let f = rows_of (section_of u) in
    (both (may_define kinds.Component u) (fits_together kinds.Component u xs) (tag_passes (may_define kinds.Component) f u xs (sections_agree (section_of u)) h.0.1) (defined_together u xs h.0.1), d.0 f h.0.1, definitions_shaped ds d.1 h.1)

abbrev ScopeShaped : Scope → Type 0
ScopeShaped (scope_of k id label ds) = DefsShaped ds

component_shaped : (s : Scope) → ScopeShaped s → FitsSections s → FitsRows s
component_shaped (scope_of k id label ds) d h = subst (ShapedDefs ds) (sym h.0) (definitions_shaped ds d h.3)

scope_shaped : (x : Scope) → ScopeShaped x → LeafShaped (m.scope x)
scope_shaped (scope_of l id label ds) d (t.type_scope k) s e h =
    let tests = and_both (has_scope s k) _ e in
    (subst (λ j. has_scope s j ≡ true) (sym h.0) tests.0, subst (ShapedDefs ds) (sym h.0) (declarations_shaped k tests.1 ds d h.4))
scope_shaped (scope_of l id label ds) d t.whole_component s e h =
    (subst (λ j. has_scope s j ≡ true) (sym h.0) e, component_shaped (scope_of l id label ds) d h)
scope_shaped (scope_of l id label ds) d f s e h = absurd h

-- the induction: one line for each kind of leaf
mutual
  leaf_all : (x : Leaf) → LeafShaped x
  leaf_all (m.text x) = text_shaped x
  leaf_all (m.number n) = number_shaped n
  leaf_all (m.kind k) = kind_shaped k
  leaf_all (m.core_value v) = core_shaped v
  leaf_all (m.ref u x) = reference_shaped u x
  leaf_all (m.place p) = place_shaped p
  leaf_all m.absent = absent_shaped
  leaf_all (m.present x) = present_shaped x (leaf_all x)
  leaf_all (m.node n) = node_shaped n (node_all n)
  leaf_all (m.nodes ns) = nodes_shaped ns (nodes_all ns)
  leaf_all (m.case_id i) = case_shaped i
  leaf_all (m.result_ids is) = λ f s e h. absurd h
  leaf_all (m.result_count n) = count_shaped n
  leaf_all (m.core_source x) = λ f s e h. absurd h
  leaf_all (m.module_bytes bs) = module_shaped bs
  leaf_all (m.scope s) = scope_shaped s (scope_all s)

  leaves_all : (xs : Leaves) → LeavesShaped xs
  leaves_all no_leaf = tt
  leaves_all (x ▸ xs) = (leaf_all x, leaves_all xs)

  node_all : (n : Node) → RowShaped n
  node_all (row u xs) = row_shaped u xs (leaves_all xs)

  nodes_all : (ns : Nodes) → NodesShaped ns
  nodes_all no_node = λ f ts e h. tt
  nodes_all (one_node n ns) = nodes_step n ns (node_all n) (nodes_all ns)

  defs_all : (ds : Defs) → DefsShaped ds
  defs_all no_def = tt
  defs_all (one_def (define names n) ds) = (node_all n, defs_all ds)

  scope_all : (s : Scope) → ScopeShaped s
  scope_all (scope_of k id label ds) = defs_all ds

pub sections_shaped : (s : Scope) → FitsSections s → FitsRows s
sections_shaped s h = component_shaped s (scope_all s) h
