-- The table of bytes by rows: what the types of code are, and the family in which each row stands as it is.
use Rattle.std.specs.Prelude.{ℕ, Bool, ◌==◌, List, [], Option, Some, None}
use Rattle.comp_model.specs.declared.row.Row.TheVariants as rows
use Rattle.comp_model.specs.declared.row.Row.{Row}
use Rattle.comp_model.specs.declared.row.ScopeKind.{ScopeKind}
use Rattle.comp_model.specs.declared.row.ScopeKind.TheVariants as kinds
use Rattle.comp_wire.specs.Table as t
use Rattle.comp_wire.specs.Table.{Line, lines}
use Rattle.comp_wire.specs.Spelled.{find}
use Rattle.byte_table.specs.declared.line.Family.{Family}
use Rattle.byte_table.specs.declared.line.Family.TheVariants as family
use Rattle.byte_table.specs.declared.line.TypeKind.{TypeKind}
use Rattle.byte_table.specs.declared.line.TypeKind.TheVariants as type_kinds
use Rattle.byte_table.specs.declared.line.Part.{Part}
use Rattle.byte_table.specs.declared.line.Part.TheVariants as part
use Rattle.byte_table.specs.declared.line.Field.{Field}
use Rattle.byte_table.specs.declared.line.Field.TheVariants as field
use Rattle.byte_table.specs.declared.line.Piece.{Piece}
use Rattle.byte_table.specs.declared.line.Piece.TheVariants as piece

abbrev pub family_of : Family → t.Family
family_of family.Customs = t.customs
family_of family.CoreModules = t.core_modules
family_of family.CoreInstances = t.core_instances
family_of family.CoreArguments = t.core_arguments
family_of family.CoreBundleExports = t.core_bundle_exports
family_of family.CoreTypes = t.core_types
family_of family.CoreFunctions = t.core_functions
family_of family.CoreValues = t.core_values
family_of family.Entities = t.entities
family_of family.Instances = t.instances
family_of family.Arguments = t.arguments
family_of family.BundleExports = t.bundle_exports
family_of family.Aliases = t.aliases
family_of family.Types = t.types
family_of family.NamedTypes = t.named_types
family_of family.Cases = t.cases
family_of family.LoneTypes = t.lone_types
family_of family.LoneNames = t.lone_names
family_of family.Canons = t.canons
family_of family.Options = t.options
family_of family.Starts = t.starts
family_of family.StartArguments = t.start_arguments
family_of family.Imports = t.imports
family_of family.Exports = t.exports
family_of family.Descriptions = t.descriptions
family_of family.ComponentDeclarations = t.component_declarations
family_of family.InstanceDeclarations = t.instance_declarations
family_of family.ModuleDeclarations = t.module_declarations

abbrev pub type_kind : TypeKind → ScopeKind
type_kind type_kinds.Component = kinds.ComponentType
type_kind type_kinds.Instance = kinds.InstanceType
type_kind type_kinds.Module = kinds.ModuleType

abbrev pub part_of : Part → t.Field
part_of part.Value = t.value
part_of (part.IndexIn s) = t.index_in s
part_of (part.One f) = t.one (family_of f)

abbrev pub field_of : Field → t.Field
field_of field.Unsigned = t.unsigned
field_of (field.IndexIn s) = t.index_in s
field_of field.AnyIndex = t.any_index
field_of field.Outward = t.outward
field_of field.Results = t.results
field_of field.Sort = t.sort
field_of field.CoreSort = t.core_sort
field_of (field.KindIs s) = t.kind_is s
field_of field.SortedIndex = t.sorted_index
field_of field.CoreSortedIndex = t.core_sorted_index
field_of field.Str = t.string
field_of field.ExternName = t.extern_name
field_of field.PrimitiveByte = t.primitive_byte
field_of field.Value = t.value
field_of (field.Optional p) = t.optional (part_of p)
field_of (field.Result p) = t.result (part_of p)
field_of field.AsyncByte = t.async_byte
field_of field.Flag = t.flag
field_of field.Unspelled = t.unspelled
field_of (field.One f) = t.one (family_of f)
field_of (field.Each f) = t.each (family_of f)
field_of field.CoreType = t.core_type
field_of field.Presence = t.presence
field_of field.Maximum = t.maximum
field_of (field.TypeScope k) = t.type_scope (type_kind k)
field_of field.WholeModule = t.whole_module
field_of field.Rest = t.rest

abbrev pub piece_of : Piece → t.Piece
piece_of (piece.Byte b) = t.byte b
piece_of (piece.Leaf i f) = t.leaf i (field_of f)
piece_of (piece.Limits i) = t.limits i
piece_of (piece.Outer i) = t.outer i

-- the family in which a row stands as it is; of the declarations of types those that stand nowhere else; a component has no line here
abbrev pub home : Row → t.Family
home rows.CoreInstantiate = t.core_instances
home rows.CoreBundle = t.core_instances
home rows.CoreFunctionType = t.core_types
home rows.CoreRec = t.core_types
home rows.ModuleType = t.core_types
home rows.FuncEntity = t.entities
home rows.TableEntity = t.entities
home rows.MemoryEntity = t.entities
home rows.GlobalEntity = t.entities
home rows.Instantiate = t.instances
home rows.Bundle = t.instances
home rows.AliasExport = t.aliases
home rows.AliasCoreExport = t.aliases
home rows.AliasOuter = t.aliases
home rows.Primitive = t.types
home rows.RecordType = t.types
home rows.VariantType = t.types
home rows.ListType = t.types
home rows.FixedLengthListType = t.types
home rows.TupleType = t.types
home rows.FlagsType = t.types
home rows.EnumType = t.types
home rows.OptionType = t.types
home rows.ResultType = t.types
home rows.OwnType = t.types
home rows.BorrowType = t.types
home rows.StreamType = t.types
home rows.FutureType = t.types
home rows.FunctionType = t.types
home rows.ComponentType = t.types
home rows.InstanceType = t.types
home rows.ResourceType = t.types
home rows.Lift = t.canons
home rows.Lower = t.canons
home rows.ResourceNew = t.canons
home rows.ResourceDrop = t.canons
home rows.ResourceRep = t.canons
home rows.TaskCancel = t.canons
home rows.SubtaskCancel = t.canons
home rows.TaskReturn = t.canons
home rows.ContextGet = t.canons
home rows.ContextSet = t.canons
home rows.SubtaskDrop = t.canons
home rows.StreamNew = t.canons
home rows.StreamRead = t.canons
home rows.StreamWrite = t.canons
home rows.StreamCancelRead = t.canons
home rows.StreamCancelWrite = t.canons
home rows.StreamDropReadable = t.canons
home rows.StreamDropWritable = t.canons
home rows.FutureNew = t.canons
home rows.FutureRead = t.canons
home rows.FutureWrite = t.canons
home rows.FutureCancelRead = t.canons
home rows.FutureCancelWrite = t.canons
home rows.FutureDropReadable = t.canons
home rows.FutureDropWritable = t.canons
home rows.ErrorContextNew = t.canons
home rows.ErrorContextDebugMessage = t.canons
home rows.ErrorContextDrop = t.canons
home rows.WaitableSetNew = t.canons
home rows.WaitableSetDrop = t.canons
home rows.WaitableJoin = t.canons
home rows.BackpressureInc = t.canons
home rows.BackpressureDec = t.canons
home rows.ThreadSpawnRef = t.canons
home rows.ThreadSpawnIndirect = t.canons
home rows.ThreadAvailableParallelism = t.canons
home rows.OptionUtf8 = t.options
home rows.OptionUtf16 = t.options
home rows.OptionLatin1Utf16 = t.options
home rows.OptionMemory = t.options
home rows.OptionRealloc = t.options
home rows.OptionPostReturn = t.options
home rows.OptionAsync = t.options
home rows.OptionCallback = t.options
home rows.ModuleDescription = t.descriptions
home rows.FuncDescription = t.descriptions
home rows.TypeEq = t.descriptions
home rows.SubResource = t.descriptions
home rows.ComponentDescription = t.descriptions
home rows.InstanceDescription = t.descriptions
home rows.ExportType = t.instance_declarations
home rows.ModuleImport = t.module_declarations
home rows.ModuleExport = t.module_declarations
home rows.Custom = t.customs
home rows.CoreModule = t.core_modules
home rows.CoreArgument = t.core_arguments
home rows.CoreBundleExport = t.core_bundle_exports
home rows.CoreValueType = t.core_values
home rows.Argument = t.arguments
home rows.BundleExport = t.bundle_exports
home rows.NamedType = t.named_types
home rows.CaseType = t.cases
home rows.LoneType = t.lone_types
home rows.LoneName = t.lone_names
home rows.Start = t.starts
home rows.StartArgument = t.start_arguments
home rows.Import = t.imports
home rows.Export = t.exports
home _ = t.options

abbrev pub line_pieces : Option Line → List t.Piece
line_pieces None = []
line_pieces (Some l) = l.pieces

abbrev pub home_pieces : Row → List t.Piece
home_pieces u = line_pieces (find u (lines (home u)))

-- a number for each family
abbrev pub family_number : t.Family → ℕ
family_number t.customs = 0
family_number t.core_modules = 1
family_number t.core_instances = 2
family_number t.core_arguments = 3
family_number t.core_bundle_exports = 4
family_number t.core_types = 5
family_number t.core_functions = 6
family_number t.core_values = 7
family_number t.entities = 8
family_number t.instances = 9
family_number t.arguments = 10
family_number t.bundle_exports = 11
family_number t.aliases = 12
family_number t.types = 13
family_number t.named_types = 14
family_number t.cases = 15
family_number t.lone_types = 16
family_number t.lone_names = 17
family_number t.canons = 18
family_number t.options = 19
family_number t.starts = 20
family_number t.start_arguments = 21
family_number t.imports = 22
family_number t.exports = 23
family_number t.descriptions = 24
family_number t.component_declarations = 25
family_number t.instance_declarations = 26
family_number t.module_declarations = 27
family_number t.components = 28

abbrev pub same_family : t.Family → t.Family → Bool
same_family f g = family_number f == family_number g
