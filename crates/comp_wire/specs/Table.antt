-- The table of bytes: one line for each row of a component, in the order of the sections (Component Model, binary format).
--
-- A line is a list of pieces in the order of the bytes; a piece is a byte, or the place of a leaf of the row and how that leaf is spelled.
use Rattle.std.specs.Prelude.{ℕ, List, [], ◌∷◌, ◌++◌}
use Rattle.comp_model.specs.declared.Space.{Space}
use Rattle.comp_model.specs.declared.Space.TheVariants.{CoreFunc, CoreTable, CoreMemory, CoreType, CoreModule, CoreInstance, Func, Value, Ty, Component, Instance}
use Rattle.comp_model.specs.declared.row.Row.TheVariants as rows
use Rattle.comp_model.specs.declared.row.Row.{Row}
use Rattle.comp_model.specs.declared.row.ScopeKind.{ScopeKind}
use Rattle.comp_model.specs.declared.row.ScopeKind.TheVariants as kinds

-- the rows that may stand in one place: the bytes decide among them
pub data Family : Type 0 where
  customs : Family
  core_modules : Family
  core_instances : Family
  core_arguments : Family
  core_bundle_exports : Family
  core_types : Family
  core_functions : Family
  core_values : Family
  entities : Family
  components : Family
  instances : Family
  arguments : Family
  bundle_exports : Family
  aliases : Family
  types : Family
  named_types : Family
  cases : Family
  lone_types : Family
  lone_names : Family
  canons : Family
  options : Family
  starts : Family
  start_arguments : Family
  imports : Family
  exports : Family
  descriptions : Family
  component_declarations : Family
  instance_declarations : Family
  module_declarations : Family

-- how one leaf is spelled
pub data Field : Type 0 where
  -- a number in unsigned LEB128; an index of a space; an index, whose space the bytes around it give
  unsigned : Field
  index_in : Space → Field
  any_index : Field
  -- how many scopes outward
  outward : Field
  -- how many results a start function has
  results : Field
  -- a sort: the byte of a space, or 00 and the byte of a core space; the same, of a core space; a kind without bytes
  sort : Field
  core_sort : Field
  kind_is : Space → Field
  -- a sort and an index; the byte of a core space and an index
  sorted_index : Field
  core_sorted_index : Field
  -- a length and so many bytes; 00 and the same: the name of an import or export
  string : Field
  extern_name : Field
  -- the byte of a primitive type; a value type: such a byte, or an index of a type in signed LEB128
  primitive_byte : Field
  value : Field
  -- 00, or 01 and a part; 00 and the result of a function, or 01 00
  optional : Field → Field
  result : Field → Field
  -- 40, or 43 of an async function; 00 or 01
  async_byte : Field
  flag : Field
  -- a leaf that has no bytes
  unspelled : Field
  -- a row; a count and so many rows
  one : Family → Field
  each : Family → Field
  -- a core value type
  core_type : Field
  -- the halves of limits: 00 or 01 by whether a maximum is there; the maximum, without a flag
  presence : Field
  maximum : Field
  -- a count and the declarations of a type; a whole component; a whole core module; the bytes to the end
  type_scope : ScopeKind → Field
  whole_component : Field
  whole_module : Field
  rest : Field

pub data Piece : Type 0 where
  byte : ℕ → Piece
  leaf : ℕ → Field → Piece
  -- 00 n, or 01 n n: the number at this place and the optional one behind it
  limits : ℕ → Piece
  -- sort 02 n n: how far outward, the index there, and the kind, which is the space of that index; they stand at this place and behind it
  outer : ℕ → Piece

-- a row, how many leaves it has, and its bytes
pub record Line : Type 0 where
  pub tag : Row
  pub leaves : ℕ
  pub pieces : List Piece

abbrev pub line : Row → ℕ → List Piece → Line
line t n ps = record { tag = t; leaves = n; pieces = ps }

-- the lines of these rows with one more byte in front
abbrev pub behind : ℕ → List Line → List Line
behind b [] = []
behind b (l ∷ ls) = line l.tag l.leaves (byte b ∷ l.pieces) ∷ behind b ls

-- Core Instance Definitions: the arguments of an instantiation are core instances
abbrev pub core_instance_lines : List Line
core_instance_lines =
    line rows.CoreInstantiate 2 (byte 0x00 ∷ leaf 0 (index_in CoreModule) ∷ leaf 1 (each core_arguments) ∷ [])
    ∷ line rows.CoreBundle 1 (byte 0x01 ∷ leaf 0 (each core_bundle_exports) ∷ [])
    ∷ []

-- Core Type Definitions
abbrev pub core_type_lines : List Line
core_type_lines =
    line rows.CoreFunctionType 2 (byte 0x60 ∷ leaf 0 (each core_values) ∷ leaf 1 (each core_values) ∷ [])
    ∷ line rows.CoreRec 1 (byte 0x4e ∷ leaf 0 (each core_functions) ∷ [])
    ∷ line rows.ModuleType 1 (byte 0x50 ∷ leaf 0 (type_scope kinds.ModuleType) ∷ [])
    ∷ []

-- Core Type Definitions: what a core module imports or exports
abbrev pub entity_lines : List Line
entity_lines =
    line rows.FuncEntity 1 (byte 0x00 ∷ leaf 0 (index_in CoreType) ∷ [])
    ∷ line rows.TableEntity 3 (byte 0x01 ∷ leaf 0 core_type ∷ limits 1 ∷ [])
    ∷ line rows.MemoryEntity 2 (byte 0x02 ∷ limits 0 ∷ [])
    ∷ line rows.GlobalEntity 2 (byte 0x03 ∷ leaf 0 core_type ∷ leaf 1 flag ∷ [])
    ∷ []

-- Instance Definitions
abbrev pub instance_lines : List Line
instance_lines =
    line rows.Instantiate 2 (byte 0x00 ∷ leaf 0 (index_in Component) ∷ leaf 1 (each arguments) ∷ [])
    ∷ line rows.Bundle 1 (byte 0x01 ∷ leaf 0 (each bundle_exports) ∷ [])
    ∷ []

-- Alias Definitions: the sort of what is aliased comes first, though it is the last leaf
abbrev pub alias_lines : List Line
alias_lines =
    line rows.AliasExport 3 (leaf 2 sort ∷ byte 0x00 ∷ leaf 0 (index_in Instance) ∷ leaf 1 string ∷ [])
    ∷ line rows.AliasCoreExport 3 (leaf 2 core_sort ∷ byte 0x01 ∷ leaf 0 (index_in CoreInstance) ∷ leaf 1 string ∷ [])
    ∷ line rows.AliasOuter 3 (outer 0 ∷ [])
    ∷ []

-- Type Definitions
abbrev pub type_lines : List Line
type_lines =
    line rows.Primitive 1 (leaf 0 primitive_byte ∷ [])
    ∷ line rows.RecordType 1 (byte 0x72 ∷ leaf 0 (each named_types) ∷ [])
    ∷ line rows.VariantType 1 (byte 0x71 ∷ leaf 0 (each cases) ∷ [])
    ∷ line rows.ListType 1 (byte 0x70 ∷ leaf 0 value ∷ [])
    ∷ line rows.FixedLengthListType 2 (byte 0x67 ∷ leaf 0 value ∷ leaf 1 unsigned ∷ [])
    ∷ line rows.TupleType 1 (byte 0x6f ∷ leaf 0 (each lone_types) ∷ [])
    ∷ line rows.FlagsType 1 (byte 0x6e ∷ leaf 0 (each lone_names) ∷ [])
    ∷ line rows.EnumType 1 (byte 0x6d ∷ leaf 0 (each lone_names) ∷ [])
    ∷ line rows.OptionType 1 (byte 0x6b ∷ leaf 0 value ∷ [])
    ∷ line rows.ResultType 2 (byte 0x6a ∷ leaf 0 (optional value) ∷ leaf 1 (optional value) ∷ [])
    ∷ line rows.OwnType 1 (byte 0x69 ∷ leaf 0 (index_in Ty) ∷ [])
    ∷ line rows.BorrowType 1 (byte 0x68 ∷ leaf 0 (index_in Ty) ∷ [])
    ∷ line rows.StreamType 1 (byte 0x66 ∷ leaf 0 (optional value) ∷ [])
    ∷ line rows.FutureType 1 (byte 0x65 ∷ leaf 0 (optional value) ∷ [])
    ∷ line rows.FunctionType 3 (leaf 0 async_byte ∷ leaf 1 (each named_types) ∷ leaf 2 (result value) ∷ [])
    ∷ line rows.ComponentType 1 (byte 0x41 ∷ leaf 0 (type_scope kinds.ComponentType) ∷ [])
    ∷ line rows.InstanceType 1 (byte 0x42 ∷ leaf 0 (type_scope kinds.InstanceType) ∷ [])
    ∷ line rows.ResourceType 2 (byte 0x3f ∷ leaf 0 core_type ∷ leaf 1 (optional (index_in CoreFunc)) ∷ [])
    ∷ []

-- Canonical Definitions; those of error contexts, contexts, back-pressure and threads are this project's profile
abbrev pub canon_lines : List Line
canon_lines =
    line rows.Lift 3 (byte 0x00 ∷ byte 0x00 ∷ leaf 1 (index_in CoreFunc) ∷ leaf 2 (each options) ∷ leaf 0 (index_in Ty) ∷ [])
    ∷ line rows.Lower 2 (byte 0x01 ∷ byte 0x00 ∷ leaf 0 (index_in Func) ∷ leaf 1 (each options) ∷ [])
    ∷ line rows.ResourceNew 1 (byte 0x02 ∷ leaf 0 (index_in Ty) ∷ [])
    ∷ line rows.ResourceDrop 1 (byte 0x03 ∷ leaf 0 (index_in Ty) ∷ [])
    ∷ line rows.ResourceRep 1 (byte 0x04 ∷ leaf 0 (index_in Ty) ∷ [])
    ∷ line rows.TaskCancel 0 (byte 0x05 ∷ [])
    ∷ line rows.SubtaskCancel 1 (byte 0x06 ∷ leaf 0 flag ∷ [])
    ∷ line rows.TaskReturn 2 (byte 0x09 ∷ leaf 0 (result value) ∷ leaf 1 (each options) ∷ [])
    ∷ line rows.ContextGet 2 (byte 0x0a ∷ leaf 0 core_type ∷ leaf 1 unsigned ∷ [])
    ∷ line rows.ContextSet 2 (byte 0x0b ∷ leaf 0 core_type ∷ leaf 1 unsigned ∷ [])
    ∷ line rows.SubtaskDrop 0 (byte 0x0d ∷ [])
    ∷ line rows.StreamNew 1 (byte 0x0e ∷ leaf 0 (index_in Ty) ∷ [])
    ∷ line rows.StreamRead 2 (byte 0x0f ∷ leaf 0 (index_in Ty) ∷ leaf 1 (each options) ∷ [])
    ∷ line rows.StreamWrite 2 (byte 0x10 ∷ leaf 0 (index_in Ty) ∷ leaf 1 (each options) ∷ [])
    ∷ line rows.StreamCancelRead 2 (byte 0x11 ∷ leaf 0 (index_in Ty) ∷ leaf 1 flag ∷ [])
    ∷ line rows.StreamCancelWrite 2 (byte 0x12 ∷ leaf 0 (index_in Ty) ∷ leaf 1 flag ∷ [])
    ∷ line rows.StreamDropReadable 1 (byte 0x13 ∷ leaf 0 (index_in Ty) ∷ [])
    ∷ line rows.StreamDropWritable 1 (byte 0x14 ∷ leaf 0 (index_in Ty) ∷ [])
    ∷ line rows.FutureNew 1 (byte 0x15 ∷ leaf 0 (index_in Ty) ∷ [])
    ∷ line rows.FutureRead 2 (byte 0x16 ∷ leaf 0 (index_in Ty) ∷ leaf 1 (each options) ∷ [])
    ∷ line rows.FutureWrite 2 (byte 0x17 ∷ leaf 0 (index_in Ty) ∷ leaf 1 (each options) ∷ [])
    ∷ line rows.FutureCancelRead 2 (byte 0x18 ∷ leaf 0 (index_in Ty) ∷ leaf 1 flag ∷ [])
    ∷ line rows.FutureCancelWrite 2 (byte 0x19 ∷ leaf 0 (index_in Ty) ∷ leaf 1 flag ∷ [])
    ∷ line rows.FutureDropReadable 1 (byte 0x1a ∷ leaf 0 (index_in Ty) ∷ [])
    ∷ line rows.FutureDropWritable 1 (byte 0x1b ∷ leaf 0 (index_in Ty) ∷ [])
    ∷ line rows.ErrorContextNew 1 (byte 0x1c ∷ leaf 0 (each options) ∷ [])
    ∷ line rows.ErrorContextDebugMessage 1 (byte 0x1d ∷ leaf 0 (each options) ∷ [])
    ∷ line rows.ErrorContextDrop 0 (byte 0x1e ∷ [])
    ∷ line rows.WaitableSetNew 0 (byte 0x1f ∷ [])
    ∷ line rows.WaitableSetDrop 0 (byte 0x22 ∷ [])
    ∷ line rows.WaitableJoin 0 (byte 0x23 ∷ [])
    ∷ line rows.BackpressureInc 0 (byte 0x24 ∷ [])
    ∷ line rows.BackpressureDec 0 (byte 0x25 ∷ [])
    ∷ line rows.ThreadSpawnRef 1 (byte 0x40 ∷ leaf 0 (index_in CoreType) ∷ [])
    ∷ line rows.ThreadSpawnIndirect 2 (byte 0x41 ∷ leaf 0 (index_in CoreType) ∷ leaf 1 (index_in CoreTable) ∷ [])
    ∷ line rows.ThreadAvailableParallelism 0 (byte 0x42 ∷ [])
    ∷ []

-- Canonical Definitions: the options
abbrev pub option_lines : List Line
option_lines =
    line rows.OptionUtf8 0 (byte 0x00 ∷ [])
    ∷ line rows.OptionUtf16 0 (byte 0x01 ∷ [])
    ∷ line rows.OptionLatin1Utf16 0 (byte 0x02 ∷ [])
    ∷ line rows.OptionMemory 1 (byte 0x03 ∷ leaf 0 (index_in CoreMemory) ∷ [])
    ∷ line rows.OptionRealloc 1 (byte 0x04 ∷ leaf 0 (index_in CoreFunc) ∷ [])
    ∷ line rows.OptionPostReturn 1 (byte 0x05 ∷ leaf 0 (index_in CoreFunc) ∷ [])
    ∷ line rows.OptionAsync 0 (byte 0x06 ∷ [])
    ∷ line rows.OptionCallback 1 (byte 0x07 ∷ leaf 0 (index_in CoreFunc) ∷ [])
    ∷ []

-- Import and Export Definitions: the description of an import, and of an export where it has one
abbrev pub description_lines : List Line
description_lines =
    line rows.ModuleDescription 1 (byte 0x00 ∷ byte 0x11 ∷ leaf 0 (index_in CoreType) ∷ [])
    ∷ line rows.FuncDescription 1 (byte 0x01 ∷ leaf 0 (index_in Ty) ∷ [])
    ∷ line rows.TypeEq 1 (byte 0x03 ∷ byte 0x00 ∷ leaf 0 (index_in Ty) ∷ [])
    ∷ line rows.SubResource 0 (byte 0x03 ∷ byte 0x01 ∷ [])
    ∷ line rows.ComponentDescription 1 (byte 0x04 ∷ leaf 0 (index_in Ty) ∷ [])
    ∷ line rows.InstanceDescription 1 (byte 0x05 ∷ leaf 0 (index_in Ty) ∷ [])
    ∷ []

-- Type Definitions: the declarations of component and instance types; an import stands in a component type alone
abbrev pub instance_declaration_lines : List Line
instance_declaration_lines =
    behind 0x00 core_type_lines
    ++ behind 0x01 type_lines
    ++ behind 0x02 alias_lines
    ++ line rows.ExportType 2 (byte 0x04 ∷ leaf 0 extern_name ∷ leaf 1 (one descriptions) ∷ [])
    ∷ []

abbrev pub component_declaration_lines : List Line
component_declaration_lines =
    line rows.Import 2 (byte 0x03 ∷ leaf 0 extern_name ∷ leaf 1 (one descriptions) ∷ []) ∷ instance_declaration_lines

-- Core Type Definitions: the declarations of module types
abbrev pub module_declaration_lines : List Line
module_declaration_lines =
    line rows.ModuleImport 3 (byte 0x00 ∷ leaf 0 string ∷ leaf 1 string ∷ leaf 2 (one entities) ∷ [])
    ∷ behind 0x01 core_type_lines
    ++ line rows.AliasOuter 3 (byte 0x02 ∷ byte 0x10 ∷ byte 0x01 ∷ leaf 0 outward ∷ leaf 1 (index_in CoreType) ∷ leaf 2 (kind_is CoreType) ∷ [])
    ∷ line rows.ModuleExport 2 (byte 0x03 ∷ leaf 0 string ∷ leaf 1 (one entities) ∷ [])
    ∷ []

abbrev pub lines : Family → List Line
lines customs = line rows.Custom 2 (leaf 0 string ∷ leaf 1 rest ∷ []) ∷ []
lines core_modules = line rows.CoreModule 1 (leaf 0 whole_module ∷ []) ∷ []
lines core_instances = core_instance_lines
lines core_arguments = line rows.CoreArgument 2 (leaf 0 string ∷ byte 0x12 ∷ leaf 1 (index_in CoreInstance) ∷ []) ∷ []
lines core_bundle_exports = line rows.CoreBundleExport 2 (leaf 0 string ∷ leaf 1 core_sorted_index ∷ []) ∷ []
lines core_types = core_type_lines
lines core_functions = line rows.CoreFunctionType 2 (byte 0x60 ∷ leaf 0 (each core_values) ∷ leaf 1 (each core_values) ∷ []) ∷ []
lines core_values = line rows.CoreValueType 1 (leaf 0 core_type ∷ []) ∷ []
lines entities = entity_lines
lines components = line rows.Component 1 (leaf 0 whole_component ∷ []) ∷ []
lines instances = instance_lines
lines arguments = line rows.Argument 2 (leaf 0 string ∷ leaf 1 sorted_index ∷ []) ∷ []
lines bundle_exports = line rows.BundleExport 2 (leaf 0 extern_name ∷ leaf 1 sorted_index ∷ []) ∷ []
lines aliases = alias_lines
lines types = type_lines
lines named_types = line rows.NamedType 2 (leaf 0 string ∷ leaf 1 value ∷ []) ∷ []
lines cases = line rows.CaseType 3 (leaf 0 unspelled ∷ leaf 1 string ∷ leaf 2 (optional value) ∷ byte 0x00 ∷ []) ∷ []
lines lone_types = line rows.LoneType 1 (leaf 0 value ∷ []) ∷ []
lines lone_names = line rows.LoneName 1 (leaf 0 string ∷ []) ∷ []
lines canons = canon_lines
lines options = option_lines
lines starts = line rows.Start 3 (leaf 0 (index_in Func) ∷ leaf 1 (each start_arguments) ∷ leaf 2 results ∷ []) ∷ []
lines start_arguments = line rows.StartArgument 1 (leaf 0 (index_in Value) ∷ []) ∷ []
lines imports = line rows.Import 2 (leaf 0 extern_name ∷ leaf 1 (one descriptions) ∷ []) ∷ []
lines exports = line rows.Export 3 (leaf 0 extern_name ∷ leaf 2 sorted_index ∷ leaf 1 (optional (one descriptions)) ∷ []) ∷ []
lines descriptions = description_lines
lines component_declarations = component_declaration_lines
lines instance_declarations = instance_declaration_lines
lines module_declarations = module_declaration_lines
