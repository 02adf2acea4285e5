-- The sections of a component (Component Model, binary format, Component Definitions).
use Rattle.std.specs.Prelude.{ℕ, ◌<◌, ◌^◌, ◌==◌, Bool, true, false, ◌&&◌, List, [], ◌∷◌, ◌++◌, length, map, if◌then◌else◌}
use Rattle.comp_model.specs.declared.row.Row.TheVariants as rows
use Rattle.comp_model.specs.declared.row.Row.{Row}
use Rattle.comp_model.specs.RowNumbers.{is_row, canonical_rows}
use Rattle.comp_model.specs.Leb.{uleb}
use Rattle.comp_model.specs.Payloads.{framed, joined}
use Rattle.comp_wire.specs.declared.sections.SectionKind.{SectionKind}
use Rattle.comp_wire.specs.declared.sections.SectionKind.TheVariants as section_kinds
use Rattle.comp_wire.specs.Table as t
use Rattle.comp_wire.specs.Table.{Family}

abbrev pub section_number : SectionKind → ℕ
section_number section_kinds.Custom = 0
section_number section_kinds.CoreModule = 1
section_number section_kinds.CoreInstance = 2
section_number section_kinds.CoreType = 3
section_number section_kinds.Component = 4
section_number section_kinds.Instance = 5
section_number section_kinds.Alias = 6
section_number section_kinds.Type = 7
section_number section_kinds.Canon = 8
section_number section_kinds.Start = 9
section_number section_kinds.Import = 10
section_number section_kinds.Export = 11

-- whether neighbours share one section, behind a count; of the others each has a section of its own
abbrev pub is_counted : SectionKind → Bool
is_counted section_kinds.Custom = false
is_counted section_kinds.CoreModule = false
is_counted section_kinds.Component = false
is_counted section_kinds.Start = false
is_counted _ = true

-- the rows of a section
abbrev pub rows_of : SectionKind → Family
rows_of section_kinds.Custom = t.customs
rows_of section_kinds.CoreModule = t.core_modules
rows_of section_kinds.CoreInstance = t.core_instances
rows_of section_kinds.CoreType = t.core_types
rows_of section_kinds.Component = t.components
rows_of section_kinds.Instance = t.instances
rows_of section_kinds.Alias = t.aliases
rows_of section_kinds.Type = t.types
rows_of section_kinds.Canon = t.canons
rows_of section_kinds.Start = t.starts
rows_of section_kinds.Import = t.imports
rows_of section_kinds.Export = t.exports

-- the section of a definition; a row that is no definition counts as a type, where no line has it
abbrev pub section_of : Row → SectionKind
section_of rows.Custom = section_kinds.Custom
section_of rows.CoreModule = section_kinds.CoreModule
section_of rows.CoreInstantiate = section_kinds.CoreInstance
section_of rows.CoreBundle = section_kinds.CoreInstance
section_of rows.CoreFunctionType = section_kinds.CoreType
section_of rows.CoreRec = section_kinds.CoreType
section_of rows.ModuleType = section_kinds.CoreType
section_of rows.Component = section_kinds.Component
section_of rows.Instantiate = section_kinds.Instance
section_of rows.Bundle = section_kinds.Instance
section_of rows.AliasExport = section_kinds.Alias
section_of rows.AliasCoreExport = section_kinds.Alias
section_of rows.AliasOuter = section_kinds.Alias
section_of rows.Start = section_kinds.Start
section_of rows.Import = section_kinds.Import
section_of rows.Export = section_kinds.Export
section_of t = if is_row t canonical_rows then section_kinds.Canon else section_kinds.Type

-- an item of any sort, and the section in which it stands
pub record Sectioned (A : Type 0) : Type 0 where
  pub section : SectionKind
  pub content : A

-- neighbours in one section
pub record Grouped (A : Type 0) : Type 0 where
  pub section : SectionKind
  pub items : List A

abbrev pub group : {A : Type 0} → SectionKind → List A → Grouped A
group s is = record { section = s; items = is }

-- the bytes of one definition; those of neighbours
abbrev pub Item : Type 0
Item = Sectioned (List ℕ)

abbrev pub Group : Type 0
Group = Grouped (List ℕ)

abbrev pub item : SectionKind → List ℕ → Item
item s bs = record { section = s; content = bs }

-- other items in the same sections
abbrev pub item_by : {A B : Type 0} → (A → B) → Sectioned A → Sectioned B
item_by f i = record { section = i.section; content = f i.content }

abbrev pub group_by : {A B : Type 0} → (A → B) → Grouped A → Grouped B
group_by f g = record { section = g.section; items = map f g.items }

abbrev pub same_section : SectionKind → SectionKind → Bool
same_section s u = section_number s == section_number u

abbrev pub shares : SectionKind → SectionKind → Bool
shares s u = is_counted s && same_section s u

-- one item in front: in the first group, where it may share its section
abbrev pub in_front : {A : Type 0} → Sectioned A → List (Grouped A) → List (Grouped A)
in_front i [] = group i.section (i.content ∷ []) ∷ []
in_front i (g ∷ gs) =
    if shares i.section g.section then group g.section (i.content ∷ g.items) ∷ gs else group i.section (i.content ∷ []) ∷ g ∷ gs

-- the sections of these items, whatever they are: none is empty, and no counted one directly follows one of its own number
abbrev pub groups : {A : Type 0} → List (Sectioned A) → List (Grouped A)
groups [] = []
groups (i ∷ is) = in_front i (groups is)

abbrev pub body : Group → List ℕ
body g = if is_counted g.section then uleb (length g.items) ++ joined g.items else joined g.items

-- each section is its number, its length and its body
abbrev pub sections : List Group → List ℕ
sections [] = []
sections (g ∷ gs) = section_number g.section ∷ (framed (body g) ++ sections gs)

abbrev pub Word : ℕ → Type 0
Word n = n < 2 ^ 32

-- the count and the length of each section are below 2 ^ 32
abbrev pub EachShort : List Group → Type 0
EachShort [] = Unit {0}
EachShort (g ∷ gs) = Word (length g.items) × Word (length (body g)) × EachShort gs

-- the magic number, the version and the layer of a component
abbrev pub preamble : List ℕ
preamble = 0x00 ∷ 0x61 ∷ 0x73 ∷ 0x6d ∷ 0x0d ∷ 0x00 ∷ 0x01 ∷ 0x00 ∷ []
