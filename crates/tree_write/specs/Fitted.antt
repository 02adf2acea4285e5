-- What a piece of a line asks of the leaves, and the byte in front of a type.
use Rattle.std.specs.Prelude.{ℕ, List, Option, Some, None}
use Rattle.comp_wire.specs.Table as t
use Rattle.comp_wire.specs.Spelled.{fits_at}

abbrev pub PieceFits : t.Piece → List (t.Field → Type 0) → Type 0
PieceFits (t.byte b) gs = Unit {0}
PieceFits (t.leaf i f) gs = fits_at i f gs
PieceFits (t.limits i) gs = Unit {0}
PieceFits (t.outer i) gs = Unit {0}

-- the byte in front of a type, where it is a declaration of a type
abbrev pub type_lead : t.Family → Option ℕ
type_lead t.component_declarations = Some 0x01
type_lead t.instance_declarations = Some 0x01
type_lead _ = None
