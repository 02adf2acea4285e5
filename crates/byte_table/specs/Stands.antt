-- How a row stands in a family: as it is, behind a byte, as the outer alias of a module type, or not.
use Rattle.std.specs.Prelude.{ℕ, cond, List, [], ◌∷◌, Option, Some, None}
use Rattle.comp_model.specs.declared.row.Row.TheVariants as rows
use Rattle.comp_model.specs.declared.row.Row.{Row}
use Rattle.comp_model.specs.declared.Space.TheVariants.{CoreType}
use Rattle.comp_wire.specs.Table as t
use Rattle.comp_wire.specs.Spelled.{spelled_at, limits_bytes, outer_bytes}
use Rattle.byte_table.specs.Lines.{same_family}
use Rattle.byte_table.specs.declared.place.Stand.{Stand}
use Rattle.byte_table.specs.declared.place.Stand.TheVariants.{Nowhere, Plain, Behind, Outer}

abbrev pub in_instance_type : t.Family → Stand
in_instance_type t.core_types = Behind 0x00
in_instance_type t.types = Behind 0x01
in_instance_type t.aliases = Behind 0x02
in_instance_type t.instance_declarations = Plain
in_instance_type _ = Nowhere

abbrev pub in_component_type : t.Family → Stand
in_component_type t.imports = Behind 0x03
in_component_type h = in_instance_type h

abbrev pub outer_stand : Row → Stand
outer_stand rows.AliasOuter = Outer
outer_stand _ = Nowhere

abbrev pub function_stand : Row → Stand
function_stand rows.CoreFunctionType = Plain
function_stand _ = Nowhere

abbrev pub in_module_type : Row → t.Family → Stand
in_module_type u t.core_types = Behind 0x01
in_module_type u t.module_declarations = Plain
in_module_type u t.aliases = outer_stand u
in_module_type u _ = Nowhere

-- of a row whose line is that of the first family, in the second
abbrev pub stand : Row → t.Family → t.Family → Stand
stand u h t.component_declarations = in_component_type h
stand u h t.instance_declarations = in_instance_type h
stand u h t.module_declarations = in_module_type u h
stand u h t.core_functions = function_stand u
stand u h f = cond (same_family h f) Plain Nowhere

-- the outer alias of a module type
abbrev pub outer_pieces : List t.Piece
outer_pieces = t.byte 0x02 ∷ t.byte 0x10 ∷ t.byte 0x01 ∷ t.leaf 0 t.outward ∷ t.leaf 1 (t.index_in CoreType) ∷ t.leaf 2 (t.kind_is CoreType) ∷ []

-- the pieces of a row that stands so
abbrev pub stood : Stand → List t.Piece → List t.Piece
stood Nowhere ps = []
stood Plain ps = ps
stood (Behind b) ps = t.byte b ∷ ps
stood Outer ps = outer_pieces

abbrev pub lead_of : Option ℕ → List t.Piece
lead_of None = []
lead_of (Some b) = t.byte b ∷ []

-- the bytes of one piece
abbrev pub piece_bytes : t.Piece → List (t.Field → List ℕ) → List ℕ
piece_bytes (t.byte b) gs = b ∷ []
piece_bytes (t.leaf i f) gs = spelled_at i f gs
piece_bytes (t.limits i) gs = limits_bytes i gs
piece_bytes (t.outer i) gs = outer_bytes i gs
