-- Rows whose lines are written out in code: what reading their leaves comes to is what the table says.
use Rattle.std.proofs.Common.{◌≡◌, ℕ, List, [], ◌∷◌, ◌++◌, refl, sym, true, Option, Some, None, Bor}
use Rattle.std.specs.Prelude.{option_to_list}
use Rattle.comp_model.specs.Model.{row}
use Rattle.comp_model.specs.declared.Space.TheVariants.{Ty}
use Rattle.comp_model.specs.declared.row.Row.{Row}
use Rattle.comp_model.specs.declared.row.Row.TheVariants as rows
use Rattle.comp_wire.specs.Table as t
use Rattle.comp_wire.specs.Table.{Family, Piece, byte, leaf, lines}
use Rattle.comp_wire.specs.Spelled.{find}
use Rattle.byte_table.specs.Lines.{line_pieces}
use Rattle.byte_table.specs.Stands.{lead_of}
use Rattle.wire_tree.specs.Model.{leaf_of}
use Rattle.wire_tree.specs.Lists.{listed}
use Rattle.wire_tree.specs.declared.tree.Leaf as l
use Rattle.wire_read.specs.Place.{Place, rest, Takes}
use Rattle.wire_read.specs.RowAt.{row_at}
use Rattle.wire_read.specs.Flat.{type_lead}
use Rattle.wire_read.specs.Nodes.{is_closed}
use Rattle.wire_read.specs.Slots.{no_slots, put, kept}
use Rattle.wire_read.specs.Pieces.{PiecesRefused}
use Rattle.wire_read.specs.declared.stop.Stop.{Stop}
use Rattle.wire_read.specs.declared.stop.Stop.TheVariants as stop
use Rattle.wire_read.specs.declared.slots.Slots.{Slots}
use Rattle.wire_read.proofs.Known.{HasLine, known}
use Rattle.wire_read.proofs.NodeParts.{LeafRefused, NodeRefused}
use Rattle.wire_read.proofs.NodeReads.{LeafRead, NodeRead, no_lead, pieces_refused, node_read}
use Rattle.wire_read.proofs.PieceReads.{no_pieces}
use Rattle.wire_read.proofs.PieceLoops.{PiecesLeft, all_left, PlainRead, PlainUnread, then_byte, other_byte, then_leaf, no_leaf, then_plain, no_plain}
use Rattle.wire_read.proofs.Places.{takes_none}

-- where a row has a line, and behind which first byte
record LineIs (f : Family) (u : Row) (b : Option ℕ) (ps : List Piece) : Type 0 where
  closed : is_closed f ≡ true
  pieces : line_pieces (find u (lines f)) ≡ lead_of b ++ ps

abbrev pub named_pieces : List Piece
named_pieces = leaf 0 t.string ∷ leaf 1 t.value ∷ []

abbrev pub function_pieces : List Piece
function_pieces = leaf 0 t.async_byte ∷ leaf 1 (t.each t.named_types) ∷ leaf 2 (t.result t.value) ∷ []

abbrev pub export_pieces : List Piece
export_pieces = byte 0x04 ∷ leaf 0 t.extern_name ∷ leaf 1 (t.one t.descriptions) ∷ []

abbrev pub func_pieces : List Piece
func_pieces = byte 0x01 ∷ leaf 0 (t.index_in Ty) ∷ []

function_line : (f : Family) → HasLine f rows.FunctionType ≡ true → LineIs f rows.FunctionType (type_lead f) function_pieces
function_line t.types h = record { closed = refl; pieces = refl }
function_line t.component_declarations h = record { closed = refl; pieces = refl }
function_line t.instance_declarations h = record { closed = refl; pieces = refl }
function_line _ h = cc

export_line : (f : Family) → HasLine f rows.ExportType ≡ true → LineIs f rows.ExportType None export_pieces
export_line t.component_declarations h = record { closed = refl; pieces = refl }
export_line t.instance_declarations h = record { closed = refl; pieces = refl }
export_line _ h = cc

func_line : (f : Family) → HasLine f rows.FuncDescription ≡ true → LineIs f rows.FuncDescription None func_pieces
func_line t.descriptions h = record { closed = refl; pieces = refl }
func_line _ h = cc

-- a row by what is left of its pieces
module _ (f : Family) (u : Row) (b : Option ℕ) (ps : List Piece) (line : LineIs f u b ps) (left : ℕ) (old mid : Place) (k : Some u ≡ row_at f (rest old)) (lead : Takes old mid (option_to_list b)) where
  refuses : (e : Stop) → PiecesRefused ps left (rest mid) e → NodeRefused f left (rest old) e
  refuses e r = pieces_refused f left u b ps old mid e k line.pieces lead r

  ends : (new : Place) (slots : Slots) (leaves : Bor (List l.Leaf)) → PiecesLeft ps [] left no_slots mid new slots → leaves.now ≡ kept slots → NodeRead f left old new (row u (listed leaves.now))
  ends new slots leaves r e = node_read f left u b ps old mid new slots leaves line.closed k line.pieces lead (r.read slots new (no_pieces left slots new)) e

-- ---- a name with a type

named_line : LineIs t.named_types rows.NamedType None named_pieces
named_line = record { closed = refl; pieces = refl }

module _ (left : ℕ) (old : Place) where
  named_refused : PiecesRefused named_pieces left (rest old) stop.Misread → NodeRefused t.named_types left (rest old) stop.Misread
  named_refused r = refuses t.named_types rows.NamedType None named_pieces named_line left old old refl (takes_none old) stop.Misread r

  none : PiecesLeft named_pieces named_pieces left no_slots old old no_slots
  none = all_left named_pieces left no_slots old (refl, refl)

  name : (x : l.Leaf) (mid : Place) → PlainRead t.string old mid x → PiecesLeft named_pieces (leaf 1 t.value ∷ []) left no_slots old mid (put no_slots 0 x)
  name x mid r = then_plain named_pieces (leaf 1 t.value ∷ []) left no_slots no_slots old old 0 t.string x mid refl refl none r

  pub no_name : PlainUnread t.string (rest old) → NodeRefused t.named_types left (rest old) stop.Misread
  no_name u = named_refused (no_plain named_pieces (leaf 1 t.value ∷ []) left no_slots no_slots old old 0 t.string none u)

  pub no_value : (x : l.Leaf) (mid : Place) → PlainRead t.string old mid x → PlainUnread t.value (rest mid) → NodeRefused t.named_types left (rest old) stop.Misread
  no_value x mid r u = named_refused (no_plain named_pieces [] left no_slots (put no_slots 0 x) old mid 1 t.value (name x mid r) u)

  pub named_read : (x y : l.Leaf) (mid new : Place) (leaves : Bor (List l.Leaf)) → PlainRead t.string old mid x → PlainRead t.value mid new y → leaves.now ≡ x ∷ y ∷ [] → NodeRead t.named_types left old new (row rows.NamedType (listed leaves.now))
  named_read x y mid new leaves r s e =
      ends t.named_types rows.NamedType None named_pieces named_line left old old refl (takes_none old) new (put (put no_slots 0 x) 1 y) leaves
      (then_plain named_pieces [] left no_slots (put no_slots 0 x) old mid 1 t.value y new refl refl (name x mid r) s) e

-- ---- a function type

module _ (f : Family) (left : ℕ) (old : Place) (k : Some rows.FunctionType ≡ row_at f (rest old)) where
  the_function : LineIs f rows.FunctionType (type_lead f) function_pieces
  the_function = function_line f (known f (rest old) rows.FunctionType (sym k))

  pub no_function_lead : ((ys : List ℕ) → option_to_list (type_lead f) ++ ys ≡ rest old → ⊥) → NodeRefused f left (rest old) stop.Misread
  no_function_lead n = no_lead f left rows.FunctionType (type_lead f) function_pieces (rest old) k the_function.pieces n

  module _ (mid : Place) (lead : Takes old mid (option_to_list (type_lead f))) where
    function_refused : (e : Stop) → PiecesRefused function_pieces left (rest mid) e → NodeRefused f left (rest old) e
    function_refused e r = refuses f rows.FunctionType (type_lead f) function_pieces the_function left old mid k lead e r

    begin : PiecesLeft function_pieces function_pieces left no_slots mid mid no_slots
    begin = all_left function_pieces left no_slots mid (refl, refl)

    pub no_async : PlainUnread t.async_byte (rest mid) → NodeRefused f left (rest old) stop.Misread
    no_async u = function_refused stop.Misread (no_plain function_pieces (leaf 1 (t.each t.named_types) ∷ leaf 2 (t.result t.value) ∷ []) left no_slots no_slots mid mid 0 t.async_byte begin u)

    module _ (x : l.Leaf) (m1 : Place) (r : PlainRead t.async_byte mid m1 x) where
      async_then : PiecesLeft function_pieces (leaf 1 (t.each t.named_types) ∷ leaf 2 (t.result t.value) ∷ []) left no_slots mid m1 (put no_slots 0 x)
      async_then = then_plain function_pieces (leaf 1 (t.each t.named_types) ∷ leaf 2 (t.result t.value) ∷ []) left no_slots no_slots mid mid 0 t.async_byte x m1 refl refl begin r

      pub no_parameters : (e : Stop) → LeafRefused (t.each t.named_types) left (rest m1) e → NodeRefused f left (rest old) e
      no_parameters e u = function_refused e (no_leaf function_pieces (leaf 2 (t.result t.value) ∷ []) left no_slots (put no_slots 0 x) mid m1 1 (t.each t.named_types) e async_then u)

      module _ (y : l.Leaf) (m2 : Place) (s : LeafRead (t.each t.named_types) left m1 m2 (leaf_of y)) where
        parameters_then : PiecesLeft function_pieces (leaf 2 (t.result t.value) ∷ []) left no_slots mid m2 (put (put no_slots 0 x) 1 y)
        parameters_then = then_leaf function_pieces (leaf 2 (t.result t.value) ∷ []) left no_slots (put no_slots 0 x) mid m1 1 (t.each t.named_types) y m2 refl async_then s

        pub no_returned : (e : Stop) → LeafRefused (t.result t.value) left (rest m2) e → NodeRefused f left (rest old) e
        no_returned e u = function_refused e (no_leaf function_pieces [] left no_slots (put (put no_slots 0 x) 1 y) mid m2 2 (t.result t.value) e parameters_then u)

        pub function_read : (z : l.Leaf) (new : Place) (leaves : Bor (List l.Leaf)) → LeafRead (t.result t.value) left m2 new (leaf_of z) → leaves.now ≡ x ∷ y ∷ z ∷ [] → NodeRead f left old new (row rows.FunctionType (listed leaves.now))
        function_read z new leaves q e =
            ends f rows.FunctionType (type_lead f) function_pieces the_function left old mid k lead new (put (put (put no_slots 0 x) 1 y) 2 z) leaves
            (then_leaf function_pieces [] left no_slots (put (put no_slots 0 x) 1 y) mid m2 2 (t.result t.value) z new refl parameters_then q) e

-- ---- an export in a type

module _ (f : Family) (left : ℕ) (old : Place) (k : Some rows.ExportType ≡ row_at f (rest old)) where
  the_export : LineIs f rows.ExportType None export_pieces
  the_export = export_line f (known f (rest old) rows.ExportType (sym k))

  export_refused : (e : Stop) → PiecesRefused export_pieces left (rest old) e → NodeRefused f left (rest old) e
  export_refused e r = refuses f rows.ExportType None export_pieces the_export left old old k (takes_none old) e r

  first_byte : PiecesLeft export_pieces export_pieces left no_slots old old no_slots
  first_byte = all_left export_pieces left no_slots old (refl, refl)

  pub no_export_byte : ((ys : List ℕ) → 0x04 ∷ ys ≡ rest old → ⊥) → NodeRefused f left (rest old) stop.Misread
  no_export_byte n = export_refused stop.Misread (other_byte export_pieces (leaf 0 t.extern_name ∷ leaf 1 (t.one t.descriptions) ∷ []) left no_slots no_slots old old 0x04 stop.Misread first_byte n)

  module _ (mid : Place) (b : Takes old mid (0x04 ∷ [])) where
    byte_then : PiecesLeft export_pieces (leaf 0 t.extern_name ∷ leaf 1 (t.one t.descriptions) ∷ []) left no_slots old mid no_slots
    byte_then = then_byte export_pieces (leaf 0 t.extern_name ∷ leaf 1 (t.one t.descriptions) ∷ []) left no_slots no_slots old old 0x04 mid first_byte b

    pub no_export_name : PlainUnread t.extern_name (rest mid) → NodeRefused f left (rest old) stop.Misread
    no_export_name u = export_refused stop.Misread (no_plain export_pieces (leaf 1 (t.one t.descriptions) ∷ []) left no_slots no_slots old mid 0 t.extern_name byte_then u)

    module _ (x : l.Leaf) (m1 : Place) (r : PlainRead t.extern_name mid m1 x) where
      name_then : PiecesLeft export_pieces (leaf 1 (t.one t.descriptions) ∷ []) left no_slots old m1 (put no_slots 0 x)
      name_then = then_plain export_pieces (leaf 1 (t.one t.descriptions) ∷ []) left no_slots no_slots old mid 0 t.extern_name x m1 refl refl byte_then r

      pub no_description : (e : Stop) → LeafRefused (t.one t.descriptions) left (rest m1) e → NodeRefused f left (rest old) e
      no_description e u = export_refused e (no_leaf export_pieces [] left no_slots (put no_slots 0 x) old m1 1 (t.one t.descriptions) e name_then u)

      pub export_read : (y : l.Leaf) (new : Place) (leaves : Bor (List l.Leaf)) → LeafRead (t.one t.descriptions) left m1 new (leaf_of y) → leaves.now ≡ x ∷ y ∷ [] → NodeRead f left old new (row rows.ExportType (listed leaves.now))
      export_read y new leaves q e =
          ends f rows.ExportType None export_pieces the_export left old old k (takes_none old) new (put (put no_slots 0 x) 1 y) leaves
          (then_leaf export_pieces [] left no_slots (put no_slots 0 x) old m1 1 (t.one t.descriptions) y new refl name_then q) e

-- ---- that an import or export is a function

module _ (f : Family) (left : ℕ) (old : Place) (k : Some rows.FuncDescription ≡ row_at f (rest old)) where
  the_func : LineIs f rows.FuncDescription None func_pieces
  the_func = func_line f (known f (rest old) rows.FuncDescription (sym k))

  func_refused : PiecesRefused func_pieces left (rest old) stop.Misread → NodeRefused f left (rest old) stop.Misread
  func_refused r = refuses f rows.FuncDescription None func_pieces the_func left old old k (takes_none old) stop.Misread r

  func_begins : PiecesLeft func_pieces func_pieces left no_slots old old no_slots
  func_begins = all_left func_pieces left no_slots old (refl, refl)

  pub no_func_byte : ((ys : List ℕ) → 0x01 ∷ ys ≡ rest old → ⊥) → NodeRefused f left (rest old) stop.Misread
  no_func_byte n = func_refused (other_byte func_pieces (leaf 0 (t.index_in Ty) ∷ []) left no_slots no_slots old old 0x01 stop.Misread func_begins n)

  module _ (mid : Place) (b : Takes old mid (0x01 ∷ [])) where
    func_then : PiecesLeft func_pieces (leaf 0 (t.index_in Ty) ∷ []) left no_slots old mid no_slots
    func_then = then_byte func_pieces (leaf 0 (t.index_in Ty) ∷ []) left no_slots no_slots old old 0x01 mid func_begins b

    pub no_func_index : PlainUnread (t.index_in Ty) (rest mid) → NodeRefused f left (rest old) stop.Misread
    no_func_index u = func_refused (no_plain func_pieces [] left no_slots no_slots old mid 0 (t.index_in Ty) func_then u)

    pub func_read : (x : l.Leaf) (new : Place) (leaves : Bor (List l.Leaf)) → PlainRead (t.index_in Ty) mid new x → leaves.now ≡ x ∷ [] → NodeRead f left old new (row rows.FuncDescription (listed leaves.now))
    func_read x new leaves r e =
        ends f rows.FuncDescription None func_pieces the_func left old old k (takes_none old) new (put no_slots 0 x) leaves
        (then_plain func_pieces [] left no_slots no_slots old mid 0 (t.index_in Ty) x new refl refl func_then r) e
