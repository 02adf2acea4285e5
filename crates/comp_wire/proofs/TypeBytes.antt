-- The bytes of a type that holds no declarations, as they are appended.
use Rattle.std.proofs.Common.{◌≡◌, ℕ, Bool, List, ◌∷◌, ◌++◌, Option, ap, append-nil}
use Rattle.comp_model.specs.declared.Space.TheVariants.{CoreFunc}
use Rattle.comp_model.specs.Leb.{uleb}
use Rattle.comp_model.specs.Model.{nodes}
use Rattle.comp_wire.specs.declared.values.ComponentValType.{ComponentValType}
use Rattle.comp_wire.specs.declared.values.WireVal.{WireVal}
use Rattle.comp_wire.specs.declared.types.WireType.{WireType}
use Rattle.comp_wire.specs.declared.types.WireType.TheVariants as ty
use Rattle.comp_wire.specs.Table as table
use Rattle.comp_wire.specs.Table.{each, index_in, optional, result, value}
use Rattle.comp_wire.specs.Spelled.{spell_leaf, spell_node, async_byte_of, core_bytes}
use Rattle.comp_wire.specs.Values.{value_of, optional_of, bit, index_of, rows_of_list, core_value_of, named_type_row, case_row, lone_type_row, lone_name_row}
use Rattle.comp_wire.specs.Definitions.{type_row}

abbrev Bytes : WireType → List ℕ → Type 0
Bytes t bytes = spell_node (type_row t) table.types ≡ bytes

pub record_bytes : (fs : _) → Bytes (ty.Record fs) (0x72 ∷ spell_leaf (nodes (rows_of_list named_type_row fs)) (each table.named_types))
record_bytes fs = ap (λ x. 0x72 ∷ x) (append-nil _)

pub variant_bytes : (cs : _) → Bytes (ty.Variant cs) (0x71 ∷ spell_leaf (nodes (rows_of_list case_row cs)) (each table.cases))
variant_bytes cs = ap (λ x. 0x71 ∷ x) (append-nil _)

pub list_bytes : (v : ComponentValType) → Bytes (ty.List v) (0x70 ∷ spell_leaf (value_of v) value)
list_bytes v = ap (λ x. 0x70 ∷ x) (append-nil _)

pub fixed_length_bytes : (v : ComponentValType) (n : ℕ) → Bytes (ty.FixedLengthList v n) (0x67 ∷ (spell_leaf (value_of v) value ++ uleb n))
fixed_length_bytes v n = ap (λ x. 0x67 ∷ (spell_leaf (value_of v) value ++ x)) (append-nil _)

pub tuple_bytes : (vs : _) → Bytes (ty.Tuple vs) (0x6f ∷ spell_leaf (nodes (rows_of_list lone_type_row vs)) (each table.lone_types))
tuple_bytes vs = ap (λ x. 0x6f ∷ x) (append-nil _)

pub flags_bytes : (xs : _) → Bytes (ty.Flags xs) (0x6e ∷ spell_leaf (nodes (rows_of_list lone_name_row xs)) (each table.lone_names))
flags_bytes xs = ap (λ x. 0x6e ∷ x) (append-nil _)

pub enum_bytes : (xs : _) → Bytes (ty.Enum xs) (0x6d ∷ spell_leaf (nodes (rows_of_list lone_name_row xs)) (each table.lone_names))
enum_bytes xs = ap (λ x. 0x6d ∷ x) (append-nil _)

pub option_bytes : (v : ComponentValType) → Bytes (ty.Option v) (0x6b ∷ spell_leaf (value_of v) value)
option_bytes v = ap (λ x. 0x6b ∷ x) (append-nil _)

pub result_bytes : (ok err : Option ComponentValType) → Bytes (ty.Result ok err) (0x6a ∷ (spell_leaf (optional_of value_of ok) (optional value) ++ spell_leaf (optional_of value_of err) (optional value)))
result_bytes ok err = ap (λ x. 0x6a ∷ (spell_leaf (optional_of value_of ok) (optional value) ++ x)) (append-nil _)

pub own_bytes : (i : ℕ) → Bytes (ty.Own i) (0x69 ∷ uleb i)
own_bytes i = ap (λ x. 0x69 ∷ x) (append-nil _)

pub borrow_bytes : (i : ℕ) → Bytes (ty.Borrow i) (0x68 ∷ uleb i)
borrow_bytes i = ap (λ x. 0x68 ∷ x) (append-nil _)

pub stream_bytes : (v : Option ComponentValType) → Bytes (ty.Stream v) (0x66 ∷ spell_leaf (optional_of value_of v) (optional value))
stream_bytes v = ap (λ x. 0x66 ∷ x) (append-nil _)

pub future_bytes : (v : Option ComponentValType) → Bytes (ty.Future v) (0x65 ∷ spell_leaf (optional_of value_of v) (optional value))
future_bytes v = ap (λ x. 0x65 ∷ x) (append-nil _)

pub function_bytes : (a : Bool) (ps : _) (r : Option ComponentValType)
    → Bytes (ty.Func a ps r) (async_byte_of (bit a) ∷ (spell_leaf (nodes (rows_of_list named_type_row ps)) (each table.named_types) ++ spell_leaf (optional_of value_of r) (result value)))
function_bytes a ps r = ap (λ x. async_byte_of (bit a) ∷ (spell_leaf (nodes (rows_of_list named_type_row ps)) (each table.named_types) ++ x)) (append-nil _)

pub resource_bytes : (rep : WireVal) (dtor : Option ℕ) → Bytes (ty.Resource rep dtor) (0x3f ∷ (core_bytes (core_value_of rep) ++ spell_leaf (optional_of (index_of CoreFunc) dtor) (optional (index_in CoreFunc))))
resource_bytes rep dtor = ap (λ x. 0x3f ∷ (core_bytes (core_value_of rep) ++ x)) (append-nil _)
