-- What can be written is short, and has no form that is never written: a test of the table by computation, and an induction on the model.
use Rattle.std.proofs.Common.{◌≡◌, ℕ, suc, ◌<◌, ◌≤◌, List, [], ◌∷◌, ◌++◌, length, length-append, refl, sym, ◌∙◌, ap, subst, arith, Bool, true, false, ◌&&◌, ◌||◌, not, Option, Some, None, if◌then◌else◌, inl, inr, is_some}
use Rattle.std.specs.List.{list_all}
use Rattle.comp_model.specs.declared.Space.{Space}
use Rattle.comp_model.specs.Core as c
use Rattle.comp_model.specs.Core.{CoreValue, Place}
use Rattle.comp_model.specs.CoreModules.{CoreModule}
use Rattle.comp_model.specs.declared.row.Row.TheVariants as rows
use Rattle.comp_model.specs.declared.row.Row.{Row}
use Rattle.comp_model.specs.RowNumbers.{same_row}
use Rattle.comp_model.proofs.Tests.{same_row-true}
use Rattle.comp_model.specs.Model as m
use Rattle.comp_model.specs.declared.row.ScopeKind.TheVariants as kinds
use Rattle.comp_model.specs.Model.{Leaf, Leaves, no_leaf, ◌▸◌, row, Nodes, no_node, one_node, define, Defs, no_def, one_def, Scope, scope_of, kind_of, Target, count_nodes, count_defs}
use Rattle.comp_model.specs.declared.row.ScopeKind.{ScopeKind}
use Rattle.comp_model.specs.Covered.{Uncovered, form_of_row, form_in_leaves, form_in_leaf, form_in_nodes, lower_of, held_at, first_held, uncovered_in_defs, uncovered_in_leaves, uncovered_in_leaf, uncovered_in_nodes, first_uncovered}
use Rattle.comp_model.specs.Payloads.{framed, joined}
use Rattle.comp_model.specs.Leb.{uleb}
use Rattle.comp_wire.specs.Table as t
use Rattle.comp_wire.specs.Table.{Family, Field, Line, lines}
use Rattle.comp_wire.specs.Sections.{section_of, rows_of, shares, is_counted, Item, Group, group, in_front, groups, EachShort, Word}
use Rattle.comp_wire.specs.Spelled.{declarations_of, item_of_node, items_of, IsPrimitive, FitsCore, FitsPlace, FitsLeaf, fits_leaves, FitsNode, FitsNodes, FitsItem, FitsDeclarations, FitsDefinitions, FitsTypeScope, FitsSections}
use Rattle.comp_wire.specs.Fits.{is_word}
use Rattle.comp_wire.specs.Short.{is_unwritten, short_frame, short_leaf, short_leaves, short_nodes, short_defs, is_short}
use Rattle.comp_wire.proofs.Groups.{and_both}
use Rattle.comp_wire.proofs.FitsTest.{both, right, word, short}
use Rattle.comp_wire.proofs.Binary.{each_spelled, Found, each_found, line_of}

-- ---- what stands in a section is shorter than it

abbrev InGroup : List (List ℕ) → Type 0
InGroup [] = Unit {0}
InGroup (x ∷ xs) = Word (length x) × InGroup xs

abbrev InGroups : List Group → Type 0
InGroups [] = Unit {0}
InGroups (g ∷ gs) = InGroup g.items × InGroups gs

abbrev EachContent : List Item → Type 0
EachContent [] = Unit {0}
EachContent (i ∷ is) = Word (length i.content) × EachContent is

joined-in : (xs : List (List ℕ)) → Word (length (joined xs)) → InGroup xs
joined-in [] h = tt
joined-in (x ∷ xs) h = (omega (arith, h, length-append x (joined xs)), joined-in xs (omega (arith, h, length-append x (joined xs))))

body-joined : (b : Bool) (xs : List (List ℕ)) → length (joined xs) ≤ length (if b then uleb (length xs) ++ joined xs else joined xs)
body-joined true xs = omega (arith, length-append (uleb (length xs)) (joined xs))
body-joined false xs = omega arith

groups-in : (gs : List Group) → EachShort gs → InGroups gs
groups-in [] h = tt
groups-in (g ∷ gs) h = (joined-in g.items (omega (arith, h.1, body-joined (is_counted g.section) g.items)), groups-in gs h.2)

in-front : (i : Item) (gs : List Group) → InGroups (in_front i gs) → Word (length i.content) × InGroups gs
in-front i [] h = (h.0.0, tt)
in-front i (g ∷ gs) h = go (shares i.section g.section) h
  where
    go : (b : Bool) → InGroups (if b then group g.section (i.content ∷ g.items) ∷ gs else group i.section (i.content ∷ []) ∷ g ∷ gs) → Word (length i.content) × InGroups (g ∷ gs)
    go true k = (k.0.0, (k.0.1, k.1))
    go false k = (k.0.0, k.1)

contents-in : (is : List Item) → InGroups (groups is) → EachContent is
contents-in [] h = tt
contents-in (i ∷ is) h = let x = in-front i (groups is) h in (x.0, contents-in is x.1)

-- ---- the table

-- the payload of a section of its own is as long as the section lets it be
abbrev plain_family : Family → Bool
plain_family t.customs = false
plain_family _ = true

only_customs : (f : Family) → plain_family f ≡ false → f ≡ t.customs
only_customs t.customs e = refl
only_customs f e = absurd (cc)

abbrev is_type_kind : ScopeKind → Bool
is_type_kind kinds.Component = false
is_type_kind _ = true

abbrev plain : Field → Bool
plain t.rest = false
plain (t.optional f) = plain f
plain (t.result f) = plain f
plain (t.one f) = plain_family f
plain (t.each f) = plain_family f
plain (t.type_scope k) = is_type_kind k
plain _ = true

abbrev plain_at : ℕ → Field → Bool
plain_at i f = plain f

abbrev plain_line : Line → Bool
plain_line l = not (is_some (form_of_row l.tag)) && each_spelled plain_at l.leaves l.pieces

-- by computation
plain_lines : (f : Family) → plain_family f ≡ true → list_all plain_line (lines f) ≡ true
plain_lines t.customs e = absurd (cc)
plain_lines t.types e = refl
plain_lines _ e = refl

plain_declarations : (k : ScopeKind) → plain_family (declarations_of k) ≡ true
plain_declarations kinds.Component = refl
plain_declarations _ = refl

not-some : {A : Type 0} (x : Option A) → not (is_some x) ≡ true → x ≡ None
not-some None e = refl
not-some (Some x) e = absurd (cc)

lower-nones : (a b : Option ℕ) → a ≡ None → b ≡ None → lower_of a b ≡ None
lower-nones a b p q = rw (p, q) refl

held-nones : (a b : Option Uncovered) → a ≡ None → b ≡ None → first_held a b ≡ None
held-nones a b p q = rw (p, q) refl

primitive_word : (n : ℕ) → IsPrimitive n → Word n
primitive_word n (inl e) = omega (arith, e)
primitive_word n (inr h) = omega (arith, h.1)

type_frame : (k : ScopeKind) (ds : Defs) → is_type_kind k ≡ true → Word (count_defs ds) → short_frame k ds ≡ true
type_frame kinds.Component ds e h = absurd (cc)
type_frame kinds.ComponentType ds e h = (word _).passes h
type_frame kinds.InstanceType ds e h = (word _).passes h
type_frame kinds.ModuleType ds e h = (word _).passes h

-- ---- the model

module _ (core : CoreModule → Option Uncovered) where
  abbrev LeafGood : Leaf → Type 0
  LeafGood x = (short_leaf x ≡ true) × (form_in_leaf x ≡ None) × (uncovered_in_leaf core x ≡ None)

  abbrev LeafLaw : Leaf → Type 0
  LeafLaw x = (f : Field) → plain f ≡ true → FitsLeaf x f → LeafGood x

  text_law : (x : List ℕ) → LeafLaw (m.text x)
  text_law x t.string e h = ((word (length x)).passes h, refl, refl)
  text_law x t.extern_name e h = ((word (length x)).passes h, refl, refl)
  text_law x t.rest e h = absurd (cc)
  text_law x f e h = absurd h

  number_law : (n : ℕ) → LeafLaw (m.number n)
  number_law n t.unsigned e h = ((word n).passes h, refl, refl)
  number_law n t.primitive_byte e h = ((word n).passes (primitive_word n h), refl, refl)
  number_law n t.value e h = ((word n).passes (primitive_word n h), refl, refl)
  number_law n t.async_byte e h = ((word n).passes (omega (arith, h)), refl, refl)
  number_law n t.flag e h = ((word n).passes (omega (arith, h)), refl, refl)
  number_law n f e h = absurd h

  core_good : (v : CoreValue) → FitsCore v → LeafGood (m.core_value v)
  core_good (c.ref_index b i) h = ((word i).passes h, refl, refl)
  core_good (c.ref_numeral b o n) h = absurd h
  core_good (c.ref_name b r x) h = absurd h
  core_good c.other_value h = absurd h
  core_good _ h = (refl, refl, refl)

  core_law : (v : CoreValue) → LeafLaw (m.core_value v)
  core_law v t.core_type e h = core_good v h
  core_law v f e h = absurd h

  place_good : (p : Place) → FitsPlace p → LeafGood (m.place p)
  place_good (c.counted o n) h = ((word n).passes h.1, refl, refl)
  place_good (c.named o x) h = absurd h

  place_law : (p : Place) → LeafLaw (m.place p)
  place_law p t.outward e h = place_good p h
  place_law p f e h = absurd h

  count_law : (n : ℕ) → LeafLaw (m.result_count n)
  count_law n t.results e h = ((word n).passes h, refl, refl)
  count_law n f e h = absurd h

  reference_law : (u : Space) (x : Target) → LeafLaw (m.ref u x)
  reference_law u (m.index i) (t.index_in v) e h = ((word i).passes h.1, refl, refl)
  reference_law u (m.index i) t.sorted_index e h = ((word i).passes h, refl, refl)
  reference_law u (m.index i) t.core_sorted_index e h = ((word i).passes h.1, refl, refl)
  reference_law u (m.index i) t.value e h = ((word i).passes h.1, refl, refl)
  reference_law u x (t.index_in v) e h = absurd h
  reference_law u x t.sorted_index e h = absurd h
  reference_law u x t.core_sorted_index e h = absurd h
  reference_law u x t.value e h = absurd h
  reference_law u x f e h = absurd h

  present_law : (x : Leaf) → LeafLaw x → LeafLaw (m.present x)
  present_law x d (t.optional f) e h = d f e h
  present_law x d (t.result f) e h = d f e h
  present_law x d t.maximum e h = d t.unsigned refl h
  present_law x d f e h = absurd h

  -- ---- the leaves of a row

  abbrev LeavesLaw : Leaves → Type 0
  LeavesLaw no_leaf = Unit {0}
  LeavesLaw (x ▸ xs) = LeafLaw x × LeavesLaw xs

  abbrev LeavesGood : Leaves → Type 0
  LeavesGood xs = (short_leaves xs ≡ true) × (form_in_leaves xs ≡ None) × (uncovered_in_leaves core xs ≡ None)

  leaves_good : (xs : Leaves) → LeavesLaw xs → ((i : ℕ) → i < length (fits_leaves xs) → Found plain_at i (fits_leaves xs)) → LeavesGood xs
  leaves_good no_leaf d h = (refl, refl, refl)
  leaves_good (x ▸ xs) d h =
      let here = h 0 (omega arith) in
      let a : LeafGood x = d.0 here.field here.passes here.fits in
      let b : LeavesGood xs = leaves_good xs d.1 (λ i k. behind i (h (suc i) (omega arith))) in
      (both (short_leaf x) (short_leaves xs) a.0 b.0, lower-nones (form_in_leaf x) (form_in_leaves xs) a.1 b.1, held-nones (uncovered_in_leaf core x) (uncovered_in_leaves core xs) a.2 b.2)
    where
      behind : (i : ℕ) → Found plain_at (suc i) (FitsLeaf x ∷ fits_leaves xs) → Found plain_at i (fits_leaves xs)
      behind i r = record { field = r.field; passes = r.passes; fits = r.fits }

  abbrev RowGood : Row → Leaves → Type 0
  RowGood u xs = ((is_unwritten u || short_leaves xs) ≡ true) × (lower_of (form_of_row u) (form_in_leaves xs) ≡ None) × (uncovered_in_leaves core xs ≡ None)

  abbrev RowLaw : Row → Leaves → Type 0
  RowLaw u xs = (f : Family) → plain_family f ≡ true → FitsNode (row u xs) f → RowGood u xs

  row_law : (u : Row) (xs : Leaves) → LeavesLaw xs → RowLaw u xs
  row_law u xs d f e h =
      let l = line_of plain_line (lines f) u (fits_leaves xs) (plain_lines f e) h in
      let tests = and_both (not (is_some (form_of_row l.line.tag))) (each_spelled plain_at l.line.leaves l.line.pieces) l.passes in
      let written : form_of_row u ≡ None = subst (λ v. form_of_row v ≡ None) l.of_row (not-some (form_of_row l.line.tag) tests.0) in
      let good : LeavesGood xs = leaves_good xs d (λ i k. each_found plain_at l.line.leaves l.line.pieces (fits_leaves xs) tests.1 l.pieces i (omega (arith, k, l.leaves))) in
      (right (is_unwritten u) (short_leaves xs) good.0, lower-nones (form_of_row u) (form_in_leaves xs) written good.1, good.2)

  node_law : (u : Row) (xs : Leaves) → RowLaw u xs → LeafLaw (m.node (row u xs))
  node_law u xs d (t.one f) e h = d f e h
  node_law u xs d f e h = absurd h

  abbrev NodesLaw : Nodes → Type 0
  NodesLaw ns = (f : Family) → plain_family f ≡ true → FitsNodes ns f → (short_nodes ns ≡ true) × (form_in_nodes ns ≡ None) × (uncovered_in_nodes core ns ≡ None)

  nodes_step : (u : Row) (xs : Leaves) (ns : Nodes) → RowLaw u xs → NodesLaw ns → NodesLaw (one_node (row u xs) ns)
  nodes_step u xs ns d others f e h =
      let a : RowGood u xs = d f e h.0 in
      let b = others f e h.1 in
      (both (is_unwritten u || short_leaves xs) (short_nodes ns) a.0 b.0, lower-nones (lower_of (form_of_row u) (form_in_leaves xs)) (form_in_nodes ns) a.1 b.1, held-nones (uncovered_in_leaves core xs) (uncovered_in_nodes core ns) a.2 b.2)

  nodes_law : (ns : Nodes) → NodesLaw ns → LeafLaw (m.nodes ns)
  nodes_law ns d (t.each f) e h = let a = d f e h.1 in (both (is_word (count_nodes ns)) (short_nodes ns) ((word (count_nodes ns)).passes h.0) a.0, a.1, a.2)
  nodes_law ns d f e h = absurd h

  -- ---- definitions

  -- a section of its own: the name is framed, the rest goes on to the end
  custom_row : (x y : Leaf) → FitsLeaf x t.string → FitsLeaf y t.rest → Word (length (item_of_node (row rows.Custom (x ▸ y ▸ no_leaf))).content) → RowGood rows.Custom (x ▸ y ▸ no_leaf)
  custom_row (m.text x) (m.text y) h g l =
      (both (is_word (length x)) (is_word (length y) && true) ((word (length x)).passes h) (both (is_word (length y)) true ((word (length y)).passes (omega (arith, l, length-append (framed x) (y ++ []), length-append y []))) refl), refl, refl)
  custom_row (m.text x) (m.ref u (m.index i)) h g l = absurd g
  custom_row (m.text x) (m.ref u v) h g l = absurd g
  custom_row (m.text x) y h g l = absurd g
  custom_row (m.ref u (m.index i)) y h g l = absurd h
  custom_row (m.ref u v) y h g l = absurd h
  custom_row x y h g l = absurd h

  custom_leaves : (xs : Leaves) → FitsNode (row rows.Custom xs) t.customs → Word (length (item_of_node (row rows.Custom xs)).content) → RowGood rows.Custom xs
  custom_leaves no_leaf h l = absurd h.1.0
  custom_leaves (x ▸ no_leaf) h l = absurd h.1.1.0
  custom_leaves (x ▸ y ▸ no_leaf) h l = custom_row x y h.1.0 h.1.1.0 l
  custom_leaves (x ▸ y ▸ z ▸ xs) h l = absurd (omega (arith, h.0))

  some_line : (u : Row) (xs : Leaves) → FitsNode (row u xs) t.customs → u ≡ rows.Custom
  some_line u xs h =
      let l = line_of (λ l. same_row l.tag rows.Custom) (lines t.customs) u (fits_leaves xs) refl h in
      sym l.of_row ∙ same_row-true l.line.tag rows.Custom l.passes

  definition_law : (u : Row) (xs : Leaves) → RowLaw u xs → FitsItem (row u xs) → Word (length (item_of_node (row u xs)).content) → RowGood u xs
  definition_law u xs d h l = go (plain_family (rows_of (section_of u))) refl
    where
      go : (b : Bool) → plain_family (rows_of (section_of u)) ≡ b → RowGood u xs
      go true p = d (rows_of (section_of u)) p h
      go false p =
          let q : u ≡ rows.Custom = some_line u xs (subst (FitsNode (row u xs)) (only_customs (rows_of (section_of u)) p) h) in
          subst (λ v. RowGood v xs) (sym q) (custom_leaves xs (subst (λ v. FitsItem (row v xs)) q h) (subst (λ v. Word (length (item_of_node (row v xs)).content)) q l))

  abbrev DefsLaw : Defs → Type 0
  DefsLaw no_def = Unit {0}
  DefsLaw (one_def (define names (row u xs)) ds) = RowLaw u xs × DefsLaw ds

  abbrev DefsGood : Defs → Type 0
  DefsGood ds = (short_defs ds ≡ true) × (uncovered_in_defs core ds ≡ None)

  defs_step : (o : ℕ) (u : Row) (xs : Leaves) (ds : Defs) → RowGood u xs → DefsGood ds
      → (((is_unwritten u || short_leaves xs) && short_defs ds) ≡ true) × (first_held (held_at o (lower_of (form_of_row u) (form_in_leaves xs))) (first_held (uncovered_in_leaves core xs) (uncovered_in_defs core ds)) ≡ None)
  defs_step o u xs ds a b = (
    both (is_unwritten u || short_leaves xs) (short_defs ds) a.0 b.0,
    held-nones (held_at o (lower_of (form_of_row u) (form_in_leaves xs))) (first_held (uncovered_in_leaves core xs) (uncovered_in_defs core ds)) (ap (held_at o) a.1) (held-nones (uncovered_in_leaves core xs) (uncovered_in_defs core ds) a.2 b.1),
  )

  declarations_law : (k : ScopeKind) (ds : Defs) → DefsLaw ds → FitsDeclarations ds (declarations_of k) → DefsGood ds
  declarations_law k no_def d h = (refl, refl)
  declarations_law k (one_def (define names (row u xs)) ds) d h = defs_step names.offset u xs ds (d.0 (declarations_of k) (plain_declarations k) h.0.1) (declarations_law k ds d.1 h.1)

  definitions_law : (ds : Defs) → DefsLaw ds → FitsDefinitions ds → EachContent (items_of ds) → DefsGood ds
  definitions_law no_def d h l = (refl, refl)
  definitions_law (one_def (define names (row u xs)) ds) d h l = defs_step names.offset u xs ds (definition_law u xs d.0 h.0.1 l.0) (definitions_law ds d.1 h.1 l.1)

  -- ---- scopes

  abbrev ScopeLaw : Scope → Type 0
  ScopeLaw (scope_of k id label ds) = DefsLaw ds

  abbrev ScopeGood : Scope → Type 0
  ScopeGood s = (is_short s ≡ true) × (first_uncovered core s ≡ None)

  component_law : (s : Scope) → ScopeLaw s → FitsSections s → ScopeGood s
  component_law (scope_of k id label ds) d h =
      let a : DefsGood ds = definitions_law ds d h.3 (contents-in (items_of ds) (groups-in (groups (items_of ds)) h.4)) in
      (both (short_defs ds) (short_frame k ds) a.0 (subst (λ j. short_frame j ds ≡ true) (sym h.0) ((short (groups (items_of ds))).passes h.4)), a.1)

  type_law : (s : Scope) → ScopeLaw s → (k : ScopeKind) → is_type_kind k ≡ true → FitsTypeScope s k → ScopeGood s
  type_law (scope_of l id label ds) d k e h =
      let a : DefsGood ds = declarations_law k ds d h.4 in
      (both (short_defs ds) (short_frame l ds) a.0 (subst (λ j. short_frame j ds ≡ true) (sym h.0) (type_frame k ds e h.3)), a.1)

  scope_leaf : (s : Scope) → ScopeGood s → LeafGood (m.scope s)
  scope_leaf (scope_of k id label ds) g = (g.0, refl, g.1)

  scope_law : (s : Scope) → ScopeLaw s → LeafLaw (m.scope s)
  scope_law s d (t.type_scope k) e h = scope_leaf s (type_law s d k e h)
  scope_law s d t.whole_component e h = scope_leaf s (component_law s d h)
  scope_law s d f e h = absurd h

  -- the induction: one line for each kind of leaf
  mutual
    leaf_all : (x : Leaf) → LeafLaw x
    leaf_all (m.text x) = text_law x
    leaf_all (m.number n) = number_law n
    leaf_all (m.kind k) = λ f e h. (refl, refl, refl)
    leaf_all (m.core_value v) = core_law v
    leaf_all (m.ref u x) = reference_law u x
    leaf_all (m.place p) = place_law p
    leaf_all m.absent = λ f e h. (refl, refl, refl)
    leaf_all (m.present x) = present_law x (leaf_all x)
    leaf_all (m.node (row u xs)) = node_law u xs (row_law u xs (leaves_all xs))
    leaf_all (m.nodes ns) = nodes_law ns (nodes_all ns)
    leaf_all (m.case_id i) = λ f e h. (refl, refl, refl)
    leaf_all (m.result_ids is) = λ f e h. (refl, refl, refl)
    leaf_all (m.result_count n) = count_law n
    leaf_all (m.core_source x) = λ f e h. absurd h
    leaf_all (m.module_bytes bs) = λ f e h. (refl, refl, refl)
    leaf_all (m.scope s) = scope_law s (scope_all s)

    leaves_all : (xs : Leaves) → LeavesLaw xs
    leaves_all no_leaf = tt
    leaves_all (x ▸ xs) = (leaf_all x, leaves_all xs)

    nodes_all : (ns : Nodes) → NodesLaw ns
    nodes_all no_node = λ f e h. (refl, refl, refl)
    nodes_all (one_node (row u xs) ns) = nodes_step u xs ns (row_law u xs (leaves_all xs)) (nodes_all ns)

    defs_all : (ds : Defs) → DefsLaw ds
    defs_all no_def = tt
    defs_all (one_def (define names (row u xs)) ds) = (row_law u xs (leaves_all xs), defs_all ds)

    scope_all : (s : Scope) → ScopeLaw s
    scope_all (scope_of k id label ds) = defs_all ds

  pub fit_short : (s : Scope) → FitsSections s → (is_short s ≡ true) × (first_uncovered core s ≡ None)
  fit_short s h = component_law s (scope_all s) h

pub component_kind : (s : Scope) → FitsSections s → kind_of s ≡ kinds.Component
component_kind (scope_of k id label ds) h = h.0
