-- Rows in which no scope stands.
use Rattle.std.specs.Prelude.{◌≡◌, ℕ, Bool, true, false, ◌&&◌, ◌||◌, List, [], ◌∷◌, Option, Some, None}
use Rattle.comp_model.specs.declared.row.Row.TheVariants as rows
use Rattle.comp_model.specs.declared.row.Row.{Row}
use Rattle.comp_model.specs.RowNumbers.{same_row}
use Rattle.comp_wire.specs.Table as t
use Rattle.comp_wire.specs.Table.{Field, Family, Piece, byte, leaf, limits, outer}
use Rattle.wire_read.specs.Plain.{is_plain}
use Rattle.wire_read.specs.RowAt.{row_at}
use Rattle.wire_read.specs.Nodes.{is_closed}
use Rattle.wire_read.specs.Pieces.{are_readable}

-- the families whose rows hold no scope, and show their end
abbrev pub is_flat : Family → Bool
is_flat t.core_types = false
is_flat t.types = false
is_flat t.component_declarations = false
is_flat t.instance_declarations = false
is_flat t.module_declarations = false
is_flat f = is_closed f

-- the fields whose leaves hold no scope, can be told by their bytes, and show their end
abbrev pub is_flat_field : Field → Bool
is_flat_field (t.optional f) = is_flat_field f
is_flat_field (t.result f) = is_flat_field f
is_flat_field (t.one g) = is_flat g
is_flat_field (t.each g) = is_flat g
is_flat_field f = is_plain f

abbrev pub is_flat_piece : Piece → Bool
is_flat_piece (leaf i f) = is_flat_field f
is_flat_piece _ = true

abbrev pub are_flat : List Piece → Bool
are_flat [] = true
are_flat (p ∷ ps) = is_flat_piece p && are_flat ps

-- pieces that can be read, and hold no scope
abbrev pub FlatPieces : List Piece → Type 0
FlatPieces ps = (are_readable ps ≡ true) × (are_flat ps ≡ true)

-- the rows of the types that hold a scope
abbrev pub holds_scope : Row → Bool
holds_scope u = same_row u rows.ComponentType || (same_row u rows.InstanceType || same_row u rows.ModuleType)

-- a row of the family stands there, and holds no scope
abbrev pub FlatRow : Family → Row → List ℕ → Type 0
FlatRow f u bytes = (is_closed f ≡ true) × (holds_scope u ≡ false) × (Some u ≡ row_at f bytes)

-- the byte in front of a type, where it is a declaration
abbrev pub type_lead : Family → Option ℕ
type_lead t.component_declarations = Some 0x01
type_lead t.instance_declarations = Some 0x01
type_lead _ = None
