-- Rows of types that hold a scope.
use Rattle.std.proofs.Common.{◌≡◌, ℕ, List, [], ◌∷◌, ◌++◌, refl, sym, ◌∙◌, ap, true, Some, Bor}
use Rattle.std.specs.Prelude.{option_to_list}
use Rattle.comp_model.specs.declared.row.Row.TheVariants as rows
use Rattle.comp_model.specs.Model.{row}
use Rattle.comp_model.specs.declared.row.ScopeKind.{ScopeKind}
use Rattle.comp_model.specs.declared.row.ScopeKind.TheVariants as kinds
use Rattle.comp_model.specs.declared.row.Row.{Row}
use Rattle.comp_wire.specs.Table as t
use Rattle.comp_wire.specs.Table.{Family, Piece, byte, leaf, lines}
use Rattle.comp_wire.specs.Spelled.{find}
use Rattle.byte_table.specs.Lines.{line_pieces, type_kind}
use Rattle.byte_table.specs.Stands.{lead_of}
use Rattle.byte_table.specs.declared.line.TypeKind.{TypeKind}
use Rattle.byte_table.specs.declared.line.TypeKind.TheVariants as type_kinds
use Rattle.wire_tree.specs.Model.{leaf_of}
use Rattle.wire_tree.specs.Lists.{listed}
use Rattle.wire_tree.specs.declared.tree.Leaf as l
use Rattle.wire_read.specs.Place.{Place, rest, Takes}
use Rattle.wire_read.specs.RowAt.{row_at}
use Rattle.wire_read.specs.Depth.{TypeBytes, component_type_defined, instance_type_defined, module_type_defined, component_type_in_component_type, instance_type_in_component_type, module_type_in_component_type, component_type_in_instance_type, instance_type_in_instance_type, module_type_in_instance_type, module_type_in_module_type, IsType}
use Rattle.wire_read.specs.Items.{type_row, type_byte, scope_lead}
use Rattle.wire_read.specs.Nodes.{is_closed}
use Rattle.wire_read.specs.Slots.{no_slots, put}
use Rattle.wire_read.specs.declared.stop.Stop.{Stop}
use Rattle.wire_read.specs.declared.stop.Stop.TheVariants as stop
use Rattle.wire_read.proofs.Known.{HasLine, known}
use Rattle.wire_read.proofs.NodeParts.{LeafRefused, NodeRefused}
use Rattle.wire_read.proofs.NodeReads.{LeafRead, NodeRead, no_lead, pieces_refused, node_read}
use Rattle.wire_read.proofs.PieceReads.{pieces_read, first_refused, later_refused, byte_read, byte_refused, leaf_read, leaf_refused}
use Rattle.wire_read.proofs.Places.{takes_two}

abbrev type_pieces : ScopeKind → List Piece
type_pieces k = byte (type_byte k) ∷ leaf 0 (t.type_scope k) ∷ []

record TypeLine (f : Family) (k : ScopeKind) : Type 0 where
  pieces : line_pieces (find (type_row k) (lines f)) ≡ lead_of (scope_lead f k) ++ type_pieces k
  bytes : TypeBytes f k (option_to_list (scope_lead f k) ++ type_byte k ∷ [])

component_line : (f : Family) → HasLine f rows.ComponentType ≡ true → TypeLine f kinds.ComponentType
component_line t.types h = record { pieces = refl; bytes = component_type_defined }
component_line t.component_declarations h = record { pieces = refl; bytes = component_type_in_component_type }
component_line t.instance_declarations h = record { pieces = refl; bytes = component_type_in_instance_type }
component_line _ h = cc

instance_line : (f : Family) → HasLine f rows.InstanceType ≡ true → TypeLine f kinds.InstanceType
instance_line t.types h = record { pieces = refl; bytes = instance_type_defined }
instance_line t.component_declarations h = record { pieces = refl; bytes = instance_type_in_component_type }
instance_line t.instance_declarations h = record { pieces = refl; bytes = instance_type_in_instance_type }
instance_line _ h = cc

module_line : (f : Family) → HasLine f rows.ModuleType ≡ true → TypeLine f kinds.ModuleType
module_line t.core_types h = record { pieces = refl; bytes = module_type_defined }
module_line t.component_declarations h = record { pieces = refl; bytes = module_type_in_component_type }
module_line t.instance_declarations h = record { pieces = refl; bytes = module_type_in_instance_type }
module_line t.module_declarations h = record { pieces = refl; bytes = module_type_in_module_type }
module_line _ h = cc

type_line : (f : Family) (k : TypeKind) → HasLine f (type_row (type_kind k)) ≡ true → TypeLine f (type_kind k)
type_line f type_kinds.Component h = component_line f h
type_line f type_kinds.Instance h = instance_line f h
type_line f type_kinds.Module h = module_line f h

pub is_type : (k : TypeKind) → IsType (type_kind k)
is_type type_kinds.Component = tt
is_type type_kinds.Instance = tt
is_type type_kinds.Module = tt

module _ (f : Family) (kind : TypeKind) (left : ℕ) (old : Place) (k : Some (type_row (type_kind kind)) ≡ row_at f (rest old)) where
  the_line : TypeLine f (type_kind kind)
  the_line = type_line f kind (known f (rest old) (type_row (type_kind kind)) (sym k))

  pub no_type_lead : ((ys : List ℕ) → option_to_list (scope_lead f (type_kind kind)) ++ ys ≡ rest old → ⊥) → NodeRefused f left (rest old) stop.Misread
  no_type_lead n = no_lead f left (type_row (type_kind kind)) (scope_lead f (type_kind kind)) (type_pieces (type_kind kind)) (rest old) k the_line.pieces n

  module _ (m1 : Place) (a : Takes old m1 (option_to_list (scope_lead f (type_kind kind)))) where
    pub no_type_byte : ((ys : List ℕ) → type_byte (type_kind kind) ∷ ys ≡ rest m1 → ⊥) → NodeRefused f left (rest old) stop.Misread
    no_type_byte n =
        pieces_refused f left (type_row (type_kind kind)) (scope_lead f (type_kind kind)) (type_pieces (type_kind kind)) old m1 stop.Misread k the_line.pieces a
        (first_refused (byte (type_byte (type_kind kind))) (leaf 0 (t.type_scope (type_kind kind)) ∷ []) left (rest m1) stop.Misread (byte_refused (type_byte (type_kind kind)) left (rest m1) stop.Misread n))

    module _ (m2 : Place) (b : Takes m1 m2 (type_byte (type_kind kind) ∷ [])) where
      pub type_bytes : TypeBytes f (type_kind kind) (option_to_list (scope_lead f (type_kind kind)) ++ type_byte (type_kind kind) ∷ [])
      type_bytes = the_line.bytes

      pub type_taken : Takes old m2 (option_to_list (scope_lead f (type_kind kind)) ++ type_byte (type_kind kind) ∷ [])
      type_taken = takes_two old m1 m2 (option_to_list (scope_lead f (type_kind kind))) (type_byte (type_kind kind) ∷ []) a b

      pub type_refused : (e : Stop) → LeafRefused (t.type_scope (type_kind kind)) left (rest m2) e → NodeRefused f left (rest old) e
      type_refused e u =
          pieces_refused f left (type_row (type_kind kind)) (scope_lead f (type_kind kind)) (type_pieces (type_kind kind)) old m1 e k the_line.pieces a
          (later_refused (byte (type_byte (type_kind kind))) (leaf 0 (t.type_scope (type_kind kind)) ∷ []) left no_slots no_slots m1 m2 e refl (byte_read (type_byte (type_kind kind)) left no_slots m1 m2 b) (leaf_refused 0 (t.type_scope (type_kind kind)) left (rest m2) e u))

      pub type_read : (v : Row) (x : l.Leaf) (new : Place) (leaves : Bor (List l.Leaf)) → is_closed f ≡ true → v ≡ type_row (type_kind kind) → LeafRead (t.type_scope (type_kind kind)) left m2 new (leaf_of x) → leaves.now ≡ x ∷ [] → NodeRead f left old new (row v (listed leaves.now))
      type_read v x new leaves c w r e =
          node_read f left v (scope_lead f (type_kind kind)) (type_pieces (type_kind kind)) old m1 new (put no_slots 0 x) leaves c (ap Some w ∙ k) (ap (λ u. line_pieces (find u (lines f))) w ∙ the_line.pieces) a
          (pieces_read (byte (type_byte (type_kind kind))) (leaf 0 (t.type_scope (type_kind kind)) ∷ []) left no_slots no_slots (put no_slots 0 x) m1 m2 new refl (byte_read (type_byte (type_kind kind)) left no_slots m1 m2 b) (leaf_read 0 (t.type_scope (type_kind kind)) left no_slots x m2 new refl r.0 r.1 r.2)) e
