-- What a leaf of a row holds, by its sort (Component Model, binary format).
use Rattle.std.specs.Prelude.{◌≡◌, ◌<◌, None}
use Rattle.comp_model.specs.declared.Space.{Space}
use Rattle.comp_model.specs.declared.Space.TheVariants.{Ty}
use Rattle.comp_model.specs.Model as m
use Rattle.comp_model.specs.Model.{Leaf, Node, Nodes, no_node, one_node}
use Rattle.comp_wire.specs.Spelled.{IsPrimitive}

-- a text, or the payload of a custom section
abbrev pub IsText : Leaf → Type 0
IsText (m.text x) = Unit {0}
IsText _ = ⊥

-- a core module
abbrev pub IsModule : Leaf → Type 0
IsModule (m.module_bytes bs) = Unit {0}
IsModule _ = ⊥

-- a number; 0 or 1; the byte of a primitive type
abbrev pub IsNumber : Leaf → Type 0
IsNumber (m.number n) = Unit {0}
IsNumber _ = ⊥

abbrev pub IsFlag : Leaf → Type 0
IsFlag (m.number n) = n < 2
IsFlag _ = ⊥

abbrev pub IsPrimitiveByte : Leaf → Type 0
IsPrimitiveByte (m.number n) = IsPrimitive n
IsPrimitiveByte _ = ⊥

-- a value type: the byte of a primitive type, or an index of a type
abbrev pub IsValue : Leaf → Type 0
IsValue (m.number n) = IsPrimitive n
IsValue (m.ref s t) = s ≡ Ty
IsValue _ = ⊥

-- a core value type
abbrev pub IsCoreValue : Leaf → Type 0
IsCoreValue (m.core_value v) = Unit {0}
IsCoreValue _ = ⊥

-- an index of any space; of this space
abbrev pub IsItem : Leaf → Type 0
IsItem (m.ref s t) = Unit {0}
IsItem _ = ⊥

abbrev pub space_at : Leaf → Space
space_at (m.ref s t) = s
space_at _ = Ty

abbrev pub IsIndex : Space → Leaf → Type 0
IsIndex u l = IsItem l × (space_at l ≡ u)

-- a kind; how many scopes outward
abbrev pub IsKind : Leaf → Type 0
IsKind (m.kind s) = Unit {0}
IsKind _ = ⊥

abbrev pub IsOutward : Leaf → Type 0
IsOutward (m.place p) = Unit {0}
IsOutward _ = ⊥

-- an index and the kind that is its space
abbrev pub IsOfKind : Leaf → Leaf → Type 0
IsOfKind (m.ref s t) (m.kind u) = s ≡ u
IsOfKind _ _ = ⊥

-- the id of a case, which the binary lacks; how many results a start function has
abbrev pub IsNoId : Leaf → Type 0
IsNoId l = l ≡ m.case_id None

abbrev pub IsResults : Leaf → Type 0
IsResults (m.result_count n) = Unit {0}
IsResults _ = ⊥

-- a part that may be missing
abbrev pub IsOptional : (Leaf → Type 0) → Leaf → Type 0
IsOptional P m.absent = Unit {0}
IsOptional P (m.present l) = P l
IsOptional P _ = ⊥

-- a row; rows
abbrev pub IsRow : (Node → Type 0) → Leaf → Type 0
IsRow P (m.node n) = P n
IsRow P _ = ⊥

abbrev pub Each : (Node → Type 0) → Nodes → Type 0
Each P no_node = Unit {0}
Each P (one_node n ns) = P n × Each P ns

abbrev pub IsList : (Node → Type 0) → Leaf → Type 0
IsList P (m.nodes ns) = Each P ns
IsList P _ = ⊥
