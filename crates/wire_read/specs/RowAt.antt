-- Which row stands at the front of bytes: the first of them decide.
use Rattle.std.specs.Prelude.{ℕ, zero, suc, ◌+◌, ◌==◌, List, [], ◌∷◌, Option, Some, None, if◌then◌else◌}
use Rattle.comp_model.specs.declared.row.Row.TheVariants as rows
use Rattle.comp_model.specs.declared.row.Row.{Row}
use Rattle.comp_wire.specs.Table as t
use Rattle.comp_wire.specs.Table.{Family}

-- the byte so many further; 256 behind the end
abbrev pub byte_ahead : List ℕ → ℕ → ℕ
byte_ahead [] n = 256
byte_ahead (b ∷ bs) zero = b
byte_ahead (b ∷ bs) (suc n) = byte_ahead bs n

-- the row of a byte, by the bytes of rows
abbrev pub coded : List (ℕ × Row) → ℕ → Option Row
coded [] b = None
coded (c ∷ cs) b = if b == c.0 then Some c.1 else coded cs b

abbrev pub core_instance_codes : List (ℕ × Row)
core_instance_codes =
    (0x00, rows.CoreInstantiate)
    ∷ (0x01, rows.CoreBundle)
    ∷ []

-- the core instance that begins with a byte
abbrev pub core_instance_row : ℕ → Option Row
core_instance_row = coded core_instance_codes

abbrev pub instance_codes : List (ℕ × Row)
instance_codes =
    (0x00, rows.Instantiate)
    ∷ (0x01, rows.Bundle)
    ∷ []

-- the instance that begins with a byte
abbrev pub instance_row : ℕ → Option Row
instance_row = coded instance_codes

abbrev pub core_type_codes : List (ℕ × Row)
core_type_codes =
    (0x60, rows.CoreFunctionType)
    ∷ (0x4e, rows.CoreRec)
    ∷ (0x50, rows.ModuleType)
    ∷ []

-- the core type that begins with a byte
abbrev pub core_type_row : ℕ → Option Row
core_type_row = coded core_type_codes

abbrev pub entity_codes : List (ℕ × Row)
entity_codes =
    (0x00, rows.FuncEntity)
    ∷ (0x01, rows.TableEntity)
    ∷ (0x02, rows.MemoryEntity)
    ∷ (0x03, rows.GlobalEntity)
    ∷ []

-- what a core module imports or exports, by its first byte
abbrev pub entity_row : ℕ → Option Row
entity_row = coded entity_codes

abbrev pub type_codes : List (ℕ × Row)
type_codes =
    (0x72, rows.RecordType)
    ∷ (0x71, rows.VariantType)
    ∷ (0x70, rows.ListType)
    ∷ (0x67, rows.FixedLengthListType)
    ∷ (0x6f, rows.TupleType)
    ∷ (0x6e, rows.FlagsType)
    ∷ (0x6d, rows.EnumType)
    ∷ (0x6b, rows.OptionType)
    ∷ (0x6a, rows.ResultType)
    ∷ (0x69, rows.OwnType)
    ∷ (0x68, rows.BorrowType)
    ∷ (0x66, rows.StreamType)
    ∷ (0x65, rows.FutureType)
    ∷ (0x40, rows.FunctionType)
    ∷ (0x43, rows.FunctionType)
    ∷ (0x41, rows.ComponentType)
    ∷ (0x42, rows.InstanceType)
    ∷ (0x3f, rows.ResourceType)
    ∷ []

-- the type that begins with a byte; each other byte is taken for that of a primitive type
abbrev pub or_primitive : Option Row → Option Row
or_primitive None = Some rows.Primitive
or_primitive (Some u) = Some u

abbrev pub type_row : ℕ → Option Row
type_row b = or_primitive (coded type_codes b)

abbrev pub canon_codes : List (ℕ × Row)
canon_codes =
    (0x00, rows.Lift)
    ∷ (0x01, rows.Lower)
    ∷ (0x02, rows.ResourceNew)
    ∷ (0x03, rows.ResourceDrop)
    ∷ (0x04, rows.ResourceRep)
    ∷ (0x05, rows.TaskCancel)
    ∷ (0x06, rows.SubtaskCancel)
    ∷ (0x09, rows.TaskReturn)
    ∷ (0x0a, rows.ContextGet)
    ∷ (0x0b, rows.ContextSet)
    ∷ (0x0d, rows.SubtaskDrop)
    ∷ (0x0e, rows.StreamNew)
    ∷ (0x0f, rows.StreamRead)
    ∷ (0x10, rows.StreamWrite)
    ∷ (0x11, rows.StreamCancelRead)
    ∷ (0x12, rows.StreamCancelWrite)
    ∷ (0x13, rows.StreamDropReadable)
    ∷ (0x14, rows.StreamDropWritable)
    ∷ (0x15, rows.FutureNew)
    ∷ (0x16, rows.FutureRead)
    ∷ (0x17, rows.FutureWrite)
    ∷ (0x18, rows.FutureCancelRead)
    ∷ (0x19, rows.FutureCancelWrite)
    ∷ (0x1a, rows.FutureDropReadable)
    ∷ (0x1b, rows.FutureDropWritable)
    ∷ (0x1c, rows.ErrorContextNew)
    ∷ (0x1d, rows.ErrorContextDebugMessage)
    ∷ (0x1e, rows.ErrorContextDrop)
    ∷ (0x1f, rows.WaitableSetNew)
    ∷ (0x22, rows.WaitableSetDrop)
    ∷ (0x23, rows.WaitableJoin)
    ∷ (0x24, rows.BackpressureInc)
    ∷ (0x25, rows.BackpressureDec)
    ∷ (0x40, rows.ThreadSpawnRef)
    ∷ (0x41, rows.ThreadSpawnIndirect)
    ∷ (0x42, rows.ThreadAvailableParallelism)
    ∷ []

-- the canonical function that begins with a byte
abbrev pub canon_row : ℕ → Option Row
canon_row = coded canon_codes

abbrev pub option_codes : List (ℕ × Row)
option_codes =
    (0x00, rows.OptionUtf8)
    ∷ (0x01, rows.OptionUtf16)
    ∷ (0x02, rows.OptionLatin1Utf16)
    ∷ (0x03, rows.OptionMemory)
    ∷ (0x04, rows.OptionRealloc)
    ∷ (0x05, rows.OptionPostReturn)
    ∷ (0x06, rows.OptionAsync)
    ∷ (0x07, rows.OptionCallback)
    ∷ []

-- the option of a canonical function that begins with a byte
abbrev pub option_row : ℕ → Option Row
option_row = coded option_codes

-- a description, by two bytes
abbrev pub description_row : ℕ → ℕ → Option Row
description_row b c =
    if b == 0x00 then Some rows.ModuleDescription
    else if b == 0x01 then Some rows.FuncDescription
    else if b == 0x03 then (if c == 0x00 then Some rows.TypeEq else Some rows.SubResource)
    else if b == 0x04 then Some rows.ComponentDescription
    else if b == 0x05 then Some rows.InstanceDescription
    else None

-- an alias, by the byte behind its sort
abbrev pub alias_by : ℕ → Option Row
alias_by b =
    if b == 0x00 then Some rows.AliasExport
    else if b == 0x01 then Some rows.AliasCoreExport
    else if b == 0x02 then Some rows.AliasOuter
    else None

abbrev pub alias_row : List ℕ → ℕ → Option Row
alias_row bs n = if byte_ahead bs n == 0x00 then alias_by (byte_ahead bs (n + 2)) else alias_by (byte_ahead bs (n + 1))

abbrev pub instance_declaration_row : List ℕ → Option Row
instance_declaration_row bs =
    if byte_ahead bs 0 == 0x00 then core_type_row (byte_ahead bs 1)
    else if byte_ahead bs 0 == 0x01 then type_row (byte_ahead bs 1)
    else if byte_ahead bs 0 == 0x02 then alias_row bs 1
    else if byte_ahead bs 0 == 0x04 then Some rows.ExportType
    else None

abbrev pub component_declaration_row : List ℕ → Option Row
component_declaration_row bs = if byte_ahead bs 0 == 0x03 then Some rows.Import else instance_declaration_row bs

abbrev pub module_declaration_row : List ℕ → Option Row
module_declaration_row bs =
    if byte_ahead bs 0 == 0x00 then Some rows.ModuleImport
    else if byte_ahead bs 0 == 0x01 then core_type_row (byte_ahead bs 1)
    else if byte_ahead bs 0 == 0x02 then Some rows.AliasOuter
    else if byte_ahead bs 0 == 0x03 then Some rows.ModuleExport
    else None

-- the row of a family that stands at the front of the bytes, if one does
abbrev pub row_at : Family → List ℕ → Option Row
row_at t.customs bs = Some rows.Custom
row_at t.core_modules bs = Some rows.CoreModule
row_at t.core_instances bs = core_instance_row (byte_ahead bs 0)
row_at t.core_arguments bs = Some rows.CoreArgument
row_at t.core_bundle_exports bs = Some rows.CoreBundleExport
row_at t.core_types bs = core_type_row (byte_ahead bs 0)
row_at t.core_functions bs = Some rows.CoreFunctionType
row_at t.core_values bs = Some rows.CoreValueType
row_at t.entities bs = entity_row (byte_ahead bs 0)
row_at t.components bs = Some rows.Component
row_at t.instances bs = instance_row (byte_ahead bs 0)
row_at t.arguments bs = Some rows.Argument
row_at t.bundle_exports bs = Some rows.BundleExport
row_at t.aliases bs = alias_row bs 0
row_at t.types bs = type_row (byte_ahead bs 0)
row_at t.named_types bs = Some rows.NamedType
row_at t.cases bs = Some rows.CaseType
row_at t.lone_types bs = Some rows.LoneType
row_at t.lone_names bs = Some rows.LoneName
row_at t.canons bs = canon_row (byte_ahead bs 0)
row_at t.options bs = option_row (byte_ahead bs 0)
row_at t.starts bs = Some rows.Start
row_at t.start_arguments bs = Some rows.StartArgument
row_at t.imports bs = Some rows.Import
row_at t.exports bs = Some rows.Export
row_at t.descriptions bs = description_row (byte_ahead bs 0) (byte_ahead bs 1)
row_at t.component_declarations bs = component_declaration_row bs
row_at t.instance_declarations bs = instance_declaration_row bs
row_at t.module_declarations bs = module_declaration_row bs
