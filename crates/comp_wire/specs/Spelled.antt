-- The bytes of a component: the table applied to rows and leaves; and what the writers ask of what they write.
use Rattle.std.specs.Prelude.{◌≡◌, ℕ, zero, suc, ◌<◌, ◌≤◌, ◌==◌, true, false, ◌⊎◌, List, [], ◌∷◌, ◌++◌, length, Option, Some, None, if◌then◌else◌}
use Rattle.comp_model.specs.Leb.{uleb, sleb}
use Rattle.comp_model.specs.declared.Space.{Space}
use Rattle.comp_model.specs.declared.Space.TheVariants.{Func, Value, Ty, Component, Instance}
use Rattle.comp_model.specs.declared.row.Row.{Row}
use Rattle.comp_model.specs.RowNumbers.{same_row}
use Rattle.comp_model.specs.Core as c
use Rattle.comp_model.specs.Core.{CoreValue, Place}
use Rattle.comp_model.specs.Model as m
use Rattle.comp_model.specs.declared.row.ScopeKind.TheVariants as kinds
use Rattle.comp_model.specs.Model.{Leaf, Leaves, no_leaf, ◌▸◌, Node, row, Nodes, no_node, one_node, no_names, Def, define, Defs, no_def, one_def, Scope, scope_of, Target, count_nodes, count_defs}
use Rattle.comp_model.specs.declared.row.ScopeKind.{ScopeKind}
use Rattle.comp_wire.specs.Table as t
use Rattle.comp_wire.specs.Table.{Family, Field, Piece, byte, leaf, limits, outer, Line, lines}
use Rattle.comp_model.specs.Payloads.{framed, core_sort_byte, sort_bytes}
use Rattle.comp_wire.specs.Sections.{Item, item, section_of, rows_of, groups, sections, preamble, EachShort, Word}

abbrev pub IsCoreSpace : Space → Type 0
IsCoreSpace Func = ⊥
IsCoreSpace Value = ⊥
IsCoreSpace Ty = ⊥
IsCoreSpace Component = ⊥
IsCoreSpace Instance = ⊥
IsCoreSpace _ = Unit {0}

-- the bytes of primitive types (Component Model, binary format, Type Definitions)
abbrev pub IsPrimitive : ℕ → Type 0
IsPrimitive n = (n ≡ 0x64) ⊎ ((0x73 ≤ n) × (n ≤ 0x7f))

-- the byte of a function type (Component Model, binary format, Type Definitions)
abbrev pub async_byte_of : ℕ → ℕ
async_byte_of n = if n == 0 then 0x40 else 0x43

-- the bytes of a core value type; a nullable reference to any function or any value of the host is written in one byte alone (WebAssembly, binary format, Types)
abbrev pub core_bytes : CoreValue → List ℕ
core_bytes c.i32 = 0x7f ∷ []
core_bytes c.i64 = 0x7e ∷ []
core_bytes c.f32 = 0x7d ∷ []
core_bytes c.f64 = 0x7c ∷ []
core_bytes c.v128 = 0x7b ∷ []
core_bytes (c.ref_func true) = 0x70 ∷ []
core_bytes (c.ref_func false) = 0x64 ∷ 0x70 ∷ []
core_bytes (c.ref_extern true) = 0x6f ∷ []
core_bytes (c.ref_extern false) = 0x64 ∷ 0x6f ∷ []
core_bytes (c.ref_index true i) = 0x63 ∷ sleb i
core_bytes (c.ref_index false i) = 0x64 ∷ sleb i
core_bytes _ = []

abbrev pub FitsCore : CoreValue → Type 0
FitsCore (c.ref_index b i) = Word i
FitsCore (c.ref_numeral b o n) = ⊥
FitsCore (c.ref_name b r x) = ⊥
FitsCore c.other_value = ⊥
FitsCore _ = Unit {0}

abbrev pub place_bytes : Place → List ℕ
place_bytes (c.counted o n) = uleb n
place_bytes (c.named o x) = []

abbrev pub FitsPlace : Place → Type 0
FitsPlace (c.counted o n) = (o ≡ 0) × Word n
FitsPlace (c.named o x) = ⊥

-- the line of a row
abbrev pub find : Row → List Line → Option Line
find u [] = None
find u (l ∷ ls) = if same_row u l.tag then Some l else find u ls

-- the bytes of the leaf at a place
abbrev pub spelled_at : ℕ → Field → List (Field → List ℕ) → List ℕ
spelled_at i f [] = []
spelled_at zero f (g ∷ gs) = g f
spelled_at (suc i) f (g ∷ gs) = spelled_at i f gs

-- the bytes of limits; a reference outward: the sort, 02, how far outward, the index
abbrev pub limits_bytes : ℕ → List (Field → List ℕ) → List ℕ
limits_bytes i gs = spelled_at (suc i) t.presence gs ++ (spelled_at i t.unsigned gs ++ spelled_at (suc i) t.maximum gs)

abbrev pub outer_bytes : ℕ → List (Field → List ℕ) → List ℕ
outer_bytes i gs = spelled_at (suc (suc i)) t.sort gs ++ 0x02 ∷ (spelled_at i t.outward gs ++ spelled_at (suc i) t.any_index gs)

abbrev pub assemble : List Piece → List (Field → List ℕ) → List ℕ
assemble [] gs = []
assemble (byte b ∷ ps) gs = b ∷ assemble ps gs
assemble (leaf i f ∷ ps) gs = spelled_at i f gs ++ assemble ps gs
assemble (limits i ∷ ps) gs = limits_bytes i gs ++ assemble ps gs
assemble (outer i ∷ ps) gs = outer_bytes i gs ++ assemble ps gs

abbrev pub spell_line : Option Line → List (Field → List ℕ) → List ℕ
spell_line None gs = []
spell_line (Some l) gs = assemble l.pieces gs

-- the declarations of a type, by its kind
abbrev pub declarations_of : ScopeKind → Family
declarations_of kinds.ComponentType = t.component_declarations
declarations_of kinds.InstanceType = t.instance_declarations
declarations_of kinds.ModuleType = t.module_declarations
declarations_of kinds.Component = t.component_declarations

-- a reference in a binary scope is an index
abbrev pub spell_reference : Field → Space → Target → List ℕ
spell_reference (t.index_in u) s (m.index i) = uleb i
spell_reference t.any_index s (m.index i) = uleb i
spell_reference t.sorted_index s (m.index i) = sort_bytes s ++ uleb i
spell_reference t.core_sorted_index s (m.index i) = core_sort_byte s ∷ uleb i
spell_reference t.value s (m.index i) = sleb i
spell_reference _ _ _ = []

abbrev mutual
  pub spell_leaf : Leaf → Field → List ℕ
  spell_leaf (m.number n) t.unsigned = uleb n
  spell_leaf (m.number n) t.primitive_byte = n ∷ []
  spell_leaf (m.number n) t.value = n ∷ []
  spell_leaf (m.number n) t.async_byte = async_byte_of n ∷ []
  spell_leaf (m.number n) t.flag = n ∷ []
  spell_leaf (m.ref s u) f = spell_reference f s u
  spell_leaf (m.place p) t.outward = place_bytes p
  spell_leaf (m.result_count n) t.results = uleb n
  spell_leaf (m.kind s) t.sort = sort_bytes s
  spell_leaf (m.kind s) t.core_sort = sort_bytes s
  spell_leaf (m.text x) t.string = framed x
  spell_leaf (m.text x) t.extern_name = 0x00 ∷ framed x
  spell_leaf (m.text x) t.rest = x
  spell_leaf m.absent (t.optional f) = 0x00 ∷ []
  spell_leaf (m.present l) (t.optional f) = 0x01 ∷ spell_leaf l f
  spell_leaf (m.present l) (t.result f) = 0x00 ∷ spell_leaf l f
  spell_leaf m.absent (t.result f) = 0x01 ∷ 0x00 ∷ []
  spell_leaf m.absent t.presence = 0x00 ∷ []
  spell_leaf (m.present l) t.presence = 0x01 ∷ []
  spell_leaf (m.present l) t.maximum = spell_leaf l t.unsigned
  spell_leaf (m.core_value v) t.core_type = core_bytes v
  spell_leaf (m.node n) (t.one f) = spell_node n f
  spell_leaf (m.nodes ns) (t.each f) = uleb (count_nodes ns) ++ spell_nodes ns f
  spell_leaf (m.module_bytes bs) t.whole_module = bs
  spell_leaf (m.scope s) (t.type_scope k) = spell_type_scope s k
  spell_leaf (m.scope s) t.whole_component = spell_component s
  spell_leaf _ _ = []

  pub spell_leaves : Leaves → List (Field → List ℕ)
  spell_leaves no_leaf = []
  spell_leaves (l ▸ ls) = spell_leaf l ∷ spell_leaves ls

  pub spell_node : Node → Family → List ℕ
  spell_node (row u ls) f = spell_line (find u (lines f)) (spell_leaves ls)

  pub spell_nodes : Nodes → Family → List ℕ
  spell_nodes no_node f = []
  spell_nodes (one_node n ns) f = spell_node n f ++ spell_nodes ns f

  pub item_of_node : Node → Item
  item_of_node (row u ls) = item (section_of u) (spell_line (find u (lines (rows_of (section_of u)))) (spell_leaves ls))

  pub spell_declaration : Def → Family → List ℕ
  spell_declaration (define names n) f = spell_node n f

  pub item_of_def : Def → Item
  item_of_def (define names n) = item_of_node n

  pub spell_declarations : Defs → Family → List ℕ
  spell_declarations no_def f = []
  spell_declarations (one_def d ds) f = spell_declaration d f ++ spell_declarations ds f

  pub items_of : Defs → List Item
  items_of no_def = []
  items_of (one_def d ds) = item_of_def d ∷ items_of ds

  pub spell_type_scope : Scope → ScopeKind → List ℕ
  spell_type_scope (scope_of k id label ds) kind = uleb (count_defs ds) ++ spell_declarations ds (declarations_of kind)

  -- the bytes of a component
  pub spell_component : Scope → List ℕ
  spell_component (scope_of k id label ds) = preamble ++ sections (groups (items_of ds))

-- the fact of the leaf at a place
abbrev pub fits_at : ℕ → Field → List (Field → Type 0) → Type 0
fits_at i f [] = ⊥
fits_at zero f (g ∷ gs) = g f
fits_at (suc i) f (g ∷ gs) = fits_at i f gs

-- the kind of an outer alias is the space of its index
abbrev pub FitsOuter : ℕ → List (Field → Type 0) → Type 0
FitsOuter i gs = (s : Space) × fits_at i t.outward gs × fits_at (suc i) (t.index_in s) gs × fits_at (suc (suc i)) (t.kind_is s) gs

abbrev pub FitsPieces : List Piece → List (Field → Type 0) → Type 0
FitsPieces [] gs = Unit {0}
FitsPieces (byte b ∷ ps) gs = FitsPieces ps gs
FitsPieces (leaf i f ∷ ps) gs = fits_at i f gs × FitsPieces ps gs
FitsPieces (limits i ∷ ps) gs = fits_at i t.unsigned gs × fits_at (suc i) t.maximum gs × FitsPieces ps gs
FitsPieces (outer i ∷ ps) gs = FitsOuter i gs × FitsPieces ps gs

abbrev pub FitsLine : Option Line → List (Field → Type 0) → Type 0
FitsLine None gs = ⊥
FitsLine (Some l) gs = (length gs ≡ l.leaves) × FitsPieces l.pieces gs

abbrev pub FitsReference : Field → Space → Target → Type 0
FitsReference (t.index_in u) s (m.index i) = (s ≡ u) × Word i
FitsReference t.sorted_index s (m.index i) = Word i
FitsReference t.core_sorted_index s (m.index i) = IsCoreSpace s × Word i
FitsReference t.value s (m.index i) = (s ≡ Ty) × Word i
FitsReference _ _ _ = ⊥

-- What a writer asks of the part that it writes: each number, index, count and length is below 2 ^ 32, and each leaf is of the sort that
-- its field spells. A component is so exactly where it can be written, which is `writers_ask_no_more`.
abbrev mutual
  pub FitsLeaf : Leaf → Field → Type 0
  FitsLeaf (m.number n) t.unsigned = Word n
  FitsLeaf (m.number n) t.primitive_byte = IsPrimitive n
  FitsLeaf (m.number n) t.value = IsPrimitive n
  FitsLeaf (m.number n) t.async_byte = n < 2
  FitsLeaf (m.number n) t.flag = n < 2
  FitsLeaf (m.ref s u) f = FitsReference f s u
  FitsLeaf (m.place p) t.outward = FitsPlace p
  FitsLeaf (m.result_count n) t.results = Word n
  FitsLeaf (m.kind s) t.sort = Unit {0}
  FitsLeaf (m.kind s) t.core_sort = IsCoreSpace s
  FitsLeaf (m.kind s) (t.kind_is u) = s ≡ u
  FitsLeaf (m.text x) t.string = Word (length x)
  FitsLeaf (m.text x) t.extern_name = Word (length x)
  FitsLeaf (m.text x) t.rest = Unit {0}
  FitsLeaf m.absent (t.optional f) = Unit {0}
  FitsLeaf (m.present l) (t.optional f) = FitsLeaf l f
  FitsLeaf m.absent (t.result f) = Unit {0}
  FitsLeaf (m.present l) (t.result f) = FitsLeaf l f
  FitsLeaf m.absent t.maximum = Unit {0}
  FitsLeaf (m.present l) t.maximum = FitsLeaf l t.unsigned
  FitsLeaf (m.core_value v) t.core_type = FitsCore v
  FitsLeaf (m.case_id i) t.unspelled = i ≡ None
  FitsLeaf (m.node n) (t.one f) = FitsNode n f
  FitsLeaf (m.nodes ns) (t.each f) = Word (count_nodes ns) × FitsNodes ns f
  FitsLeaf (m.module_bytes bs) t.whole_module = Unit {0}
  FitsLeaf (m.scope s) (t.type_scope k) = FitsTypeScope s k
  FitsLeaf (m.scope s) t.whole_component = FitsSections s
  FitsLeaf _ _ = ⊥

  pub fits_leaves : Leaves → List (Field → Type 0)
  fits_leaves no_leaf = []
  fits_leaves (l ▸ ls) = FitsLeaf l ∷ fits_leaves ls

  pub FitsNode : Node → Family → Type 0
  FitsNode (row u ls) f = FitsLine (find u (lines f)) (fits_leaves ls)

  pub FitsNodes : Nodes → Family → Type 0
  FitsNodes no_node f = Unit {0}
  FitsNodes (one_node n ns) f = FitsNode n f × FitsNodes ns f

  pub FitsItem : Node → Type 0
  FitsItem (row u ls) = FitsLine (find u (lines (rows_of (section_of u)))) (fits_leaves ls)

  pub FitsDeclaration : Def → Family → Type 0
  FitsDeclaration (define names n) f = (names ≡ no_names) × FitsNode n f

  pub FitsDefinition : Def → Type 0
  FitsDefinition (define names n) = (names ≡ no_names) × FitsItem n

  pub FitsDeclarations : Defs → Family → Type 0
  FitsDeclarations no_def f = Unit {0}
  FitsDeclarations (one_def d ds) f = FitsDeclaration d f × FitsDeclarations ds f

  pub FitsDefinitions : Defs → Type 0
  FitsDefinitions no_def = Unit {0}
  FitsDefinitions (one_def d ds) = FitsDefinition d × FitsDefinitions ds

  pub FitsTypeScope : Scope → ScopeKind → Type 0
  FitsTypeScope (scope_of k id label ds) kind = (k ≡ kind) × (id ≡ None) × (label ≡ None) × Word (count_defs ds) × FitsDeclarations ds (declarations_of kind)

  -- of the definitions of a component each fits its line, and each section is short enough for its length
  pub FitsSections : Scope → Type 0
  FitsSections (scope_of k id label ds) = (k ≡ kinds.Component) × (id ≡ None) × (label ≡ None) × FitsDefinitions ds × EachShort (groups (items_of ds))
