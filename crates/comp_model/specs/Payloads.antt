-- The payloads of the two custom sections that an encoding writes: of names (Component Model, binary format, Name Section), and of
-- producers (WebAssembly tool conventions, Producers Section).
use Rattle.std.specs.Prelude.{ℕ, codes, List, [], ◌∷◌, ◌++◌, length, map, Option, Some, None}
use Rattle.comp_model.specs.declared.Space.{Space}
use Rattle.comp_model.specs.declared.Space.TheVariants.{CoreFunc, CoreTable, CoreMemory, CoreGlobal, CoreTag, CoreType, CoreModule, CoreInstance, Func, Value, Ty, Component, Instance}
use Rattle.comp_model.specs.Core.{Text}
use Rattle.comp_model.specs.Model.{text, nodes, Leaves, no_leaf, ◌▸◌, row, Nodes, no_node, one_node, count_nodes}
use Rattle.comp_model.specs.NameMaps.{ItemName, NameMap, NameMaps}
use Rattle.comp_model.specs.Leb.{uleb}

-- a length and so many bytes
abbrev pub framed : List ℕ → List ℕ
framed bytes = uleb (length bytes) ++ bytes

-- one behind the other
abbrev pub joined : List (List ℕ) → List ℕ
joined [] = []
joined (b ∷ bs) = b ++ joined bs

-- the byte of a core sort (Component Model, binary format, Instance Definitions)
abbrev pub core_sort_byte : Space → ℕ
core_sort_byte CoreFunc = 0x00
core_sort_byte CoreTable = 0x01
core_sort_byte CoreMemory = 0x02
core_sort_byte CoreGlobal = 0x03
core_sort_byte CoreTag = 0x04
core_sort_byte CoreType = 0x10
core_sort_byte CoreModule = 0x11
core_sort_byte CoreInstance = 0x12
core_sort_byte _ = 0x00

-- the bytes of a sort (Component Model, binary format, Instance Definitions)
abbrev pub sort_bytes : Space → List ℕ
sort_bytes Func = 0x01 ∷ []
sort_bytes Value = 0x02 ∷ []
sort_bytes Ty = 0x03 ∷ []
sort_bytes Component = 0x04 ∷ []
sort_bytes Instance = 0x05 ∷ []
sort_bytes s = 0x00 ∷ core_sort_byte s ∷ []

-- an index and a name for each item
abbrev pub item_name_bytes : List ItemName → List ℕ
item_name_bytes [] = []
item_name_bytes (i ∷ is) = uleb i.index ++ (framed i.name ++ item_name_bytes is)

-- a part of the name section: its number, and what it holds
pub record Subsection : Type 0 where
  pub number : ℕ
  pub body : List ℕ

-- each is its number, its length and its body
abbrev pub subsection_bytes : Subsection → List ℕ
subsection_bytes s = s.number ∷ framed s.body

-- subsection 0: the component's name
abbrev pub component_subsection : Text → Subsection
component_subsection x = record { number = 0x00; body = framed x }

-- subsection 1: the sort of a space, and the names of its items
abbrev pub map_subsection : Space → List ItemName → Subsection
map_subsection s is = record { number = 0x01; body = sort_bytes s ++ (uleb (length is) ++ item_name_bytes is) }

-- the subsections that are written: one for the component's name, where it has one, and one for each space in which an item has a name
abbrev pub component_subsections : Option Text → List Subsection
component_subsections None = []
component_subsections (Some x) = component_subsection x ∷ []

abbrev pub map_subsections : Space → List ItemName → List Subsection
map_subsections s [] = []
map_subsections s (i ∷ is) = map_subsection s (i ∷ is) ∷ []

abbrev pub maps_subsections : List NameMap → List Subsection
maps_subsections [] = []
maps_subsections (n ∷ ns) = map_subsections n.space n.names ++ maps_subsections ns

abbrev pub subsections : NameMaps → List Subsection
subsections n = component_subsections n.component ++ maps_subsections n.maps

-- what the section holds
abbrev pub name_payload : NameMaps → List ℕ
name_payload n = joined (map subsection_bytes (subsections n))

-- the bytes of the subsection of the component's name, of that of a space, and of those of all spaces
abbrev pub component_name_bytes : Option Text → List ℕ
component_name_bytes None = []
component_name_bytes (Some x) = subsection_bytes (component_subsection x)

abbrev pub map_bytes : Space → List ItemName → List ℕ
map_bytes s [] = []
map_bytes s (i ∷ is) = subsection_bytes (map_subsection s (i ∷ is))

abbrev pub maps_bytes : List NameMap → List ℕ
maps_bytes [] = []
maps_bytes (n ∷ ns) = map_bytes n.space n.names ++ maps_bytes ns

-- "component-name"
abbrev pub name_of_section : Text
name_of_section = 0x63 ∷ 0x6f ∷ 0x6d ∷ 0x70 ∷ 0x6f ∷ 0x6e ∷ 0x65 ∷ 0x6e ∷ 0x74 ∷ 0x2d ∷ 0x6e ∷ 0x61 ∷ 0x6d ∷ 0x65 ∷ []

-- a name and a version
abbrev pub producer_bytes : Leaves → List ℕ
producer_bytes (text x ▸ text y ▸ no_leaf) = framed x ++ framed y
producer_bytes _ = []

abbrev pub producers_bytes : Nodes → List ℕ
producers_bytes no_node = []
producers_bytes (one_node (row t ls) ns) = producer_bytes ls ++ producers_bytes ns

-- a field: its name, a count, and so many names with their versions; one without any is left out
abbrev pub producers_field : Text → Nodes → List (List ℕ)
producers_field x no_node = []
producers_field x (one_node n ns) = (framed x ++ (uleb (count_nodes (one_node n ns)) ++ producers_bytes (one_node n ns))) ∷ []

abbrev pub producers_fields : List Text → Leaves → List (List ℕ)
producers_fields [] ls = []
producers_fields (x ∷ xs) (nodes ns ▸ ls) = producers_field x ns ++ producers_fields xs ls
producers_fields (x ∷ xs) _ = []

abbrev pub field_names : List Text
field_names = codes "language" ∷ codes "sdk" ∷ codes "processed-by" ∷ []

-- what the section of producers holds: a count, and so many fields
abbrev pub counted : List (List ℕ) → List ℕ
counted fields = uleb (length fields) ++ joined fields

abbrev pub producers_payload : Leaves → Text
producers_payload ls = counted (producers_fields field_names ls)
