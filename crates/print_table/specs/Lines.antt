-- The table of the printed text: a line for each row of a component in binary form, in the order of the sections (Component Model, text format).
--
-- A line is a list of pieces in the order of the tokens; a piece is a token, or the place of a leaf of the row and how that leaf is shown.
use Rattle.std.specs.Prelude.{ℕ, List, [], ◌∷◌, ◌++◌, codes}
use Prim.Native.String.{String}
use Rattle.comp_model.specs.declared.row.Row.TheVariants as rows
use Rattle.comp_model.specs.declared.row.Row.{Row}
use Rattle.comp_model.specs.declared.row.ScopeKind.{ScopeKind}
use Rattle.comp_model.specs.declared.row.ScopeKind.TheVariants as kinds
use Rattle.print_table.specs.Tokens as printed
use Rattle.print_table.specs.Tokens.{PrintedToken}

-- how one leaf is shown
pub data Field : Type 0 where
  -- n: a number, an index, or how many scopes outward
  number : Field
  -- s: a text; the bytes of a custom section, which need be no text
  string : Field
  payload : Field
  -- the word of a primitive type; v: that word, or an index
  primitive : Field
  value : Field
  -- c: a core value type; that of a table's elements, a reference
  core_value : Field
  element : Field
  -- the word, where the number is 1
  flag : String → Field
  -- `(` and `mut`, and `)`, where the number is 1
  opens_mutable : Field
  closes_mutable : Field
  -- the words of a kind: of an item, of a core item, of an item of an enclosing scope
  kind : Field
  core_kind : Field
  outer_kind : Field
  -- the words of a space, and an index
  item : Field
  core_item : Field
  -- a part that may be missing; the same, in parentheses behind a word
  optional : Field → Field
  optional_in : String → Field → Field
  -- a row; rows; rows, each in parentheses behind a word
  one : Field
  each : Field
  each_in : String → Field
  -- `(result (value))` for each result of a start function
  results : Field
  -- the definitions of a scope
  definitions : Field

pub data Piece : Type 0 where
  token : PrintedToken → Piece
  leaf : ℕ → Field → Piece

abbrev pub w : String → List Piece
w x = token (printed.word (codes x)) ∷ []

abbrev pub part : ℕ → Field → List Piece
part i f = leaf i f ∷ []

abbrev pub group : List Piece → List Piece
group ps = token printed.opening ∷ (ps ++ token printed.closing ∷ [])

-- ---- core types

-- (func (param c)* (result c)*)
abbrev pub core_function : List Piece
core_function = group (w "func" ++ (part 0 (each_in "param") ++ part 1 (each_in "result")))

-- ---- types

-- (func async? (param s v)* (result v)?)
abbrev pub function : List Piece
function = group (w "func" ++ (part 0 (flag "async") ++ (part 1 (each_in "param") ++ part 2 (optional_in "result" value))))

-- the types of a component (Type Definitions)
abbrev pub type_line : Row → List Piece
type_line rows.Primitive = part 0 primitive
type_line rows.RecordType = group (w "record" ++ part 0 (each_in "field"))
type_line rows.VariantType = group (w "variant" ++ part 0 (each_in "case"))
type_line rows.ListType = group (w "list" ++ part 0 value)
type_line rows.FixedLengthListType = group (w "list" ++ (part 0 value ++ part 1 number))
type_line rows.TupleType = group (w "tuple" ++ part 0 each)
type_line rows.FlagsType = group (w "flags" ++ part 0 each)
type_line rows.EnumType = group (w "enum" ++ part 0 each)
type_line rows.OptionType = group (w "option" ++ part 0 value)
type_line rows.ResultType = group (w "result" ++ (part 0 (optional value) ++ part 1 (optional_in "error" value)))
type_line rows.OwnType = group (w "own" ++ part 0 number)
type_line rows.BorrowType = group (w "borrow" ++ part 0 number)
type_line rows.StreamType = group (w "stream" ++ part 0 (optional value))
type_line rows.FutureType = group (w "future" ++ part 0 (optional value))
type_line rows.FunctionType = function
type_line rows.ComponentType = group (w "component" ++ part 0 definitions)
type_line rows.InstanceType = group (w "instance" ++ part 0 definitions)
type_line rows.ResourceType = group (w "resource" ++ (group (w "rep" ++ part 0 core_value) ++ part 1 (optional_in "dtor" number)))
type_line _ = []

-- ---- canonical functions

-- a built-in: its words, and `(core func)`
abbrev pub built_in : String → List Piece → List Piece
built_in x ps = group (w "canon" ++ (w x ++ (ps ++ group (w "core" ++ w "func"))))

-- built-ins alike: of a type; of a type and options; of a type, async or not; of options alone; of a context
abbrev pub of_type : String → List Piece
of_type x = built_in x (part 0 number)

abbrev pub of_type_with : String → List Piece
of_type_with x = built_in x (part 0 number ++ part 1 each)

abbrev pub of_type_async : String → List Piece
of_type_async x = built_in x (part 0 number ++ part 1 (flag "async"))

abbrev pub of_options : String → List Piece
of_options x = built_in x (part 0 each)

abbrev pub of_context : String → List Piece
of_context x = built_in x (part 0 core_value ++ part 1 number)

-- ---- the definitions of a component, and of the type of a component or an instance

abbrev pub definition_line : Row → List Piece
-- core instances and core types
definition_line rows.CoreInstantiate = group (w "core" ++ (w "instance" ++ group (w "instantiate" ++ (part 0 number ++ part 1 (each_in "with")))))
definition_line rows.CoreBundle = group (w "core" ++ (w "instance" ++ part 0 (each_in "export")))
definition_line rows.CoreFunctionType = group (w "core" ++ (w "type" ++ core_function))
definition_line rows.CoreRec = group (w "core" ++ (w "rec" ++ part 0 (each_in "type")))
definition_line rows.ModuleType = group (w "core" ++ (w "type" ++ group (w "module" ++ part 0 definitions)))
-- components, instances and aliases
definition_line rows.Component = group (w "component" ++ part 0 definitions)
definition_line rows.Instantiate = group (w "instance" ++ group (w "instantiate" ++ (part 0 number ++ part 1 (each_in "with"))))
definition_line rows.Bundle = group (w "instance" ++ part 0 (each_in "export"))
definition_line rows.AliasExport = group (w "alias" ++ (w "export" ++ (part 0 number ++ (part 1 string ++ group (part 2 kind)))))
definition_line rows.AliasCoreExport = group (w "alias" ++ (w "core" ++ (w "export" ++ (part 0 number ++ (part 1 string ++ group (w "core" ++ part 2 core_kind))))))
definition_line rows.AliasOuter = group (w "alias" ++ (w "outer" ++ (part 0 number ++ (part 1 number ++ group (part 2 outer_kind)))))
-- types
definition_line rows.Primitive = group (w "type" ++ type_line rows.Primitive)
definition_line rows.RecordType = group (w "type" ++ type_line rows.RecordType)
definition_line rows.VariantType = group (w "type" ++ type_line rows.VariantType)
definition_line rows.ListType = group (w "type" ++ type_line rows.ListType)
definition_line rows.FixedLengthListType = group (w "type" ++ type_line rows.FixedLengthListType)
definition_line rows.TupleType = group (w "type" ++ type_line rows.TupleType)
definition_line rows.FlagsType = group (w "type" ++ type_line rows.FlagsType)
definition_line rows.EnumType = group (w "type" ++ type_line rows.EnumType)
definition_line rows.OptionType = group (w "type" ++ type_line rows.OptionType)
definition_line rows.ResultType = group (w "type" ++ type_line rows.ResultType)
definition_line rows.OwnType = group (w "type" ++ type_line rows.OwnType)
definition_line rows.BorrowType = group (w "type" ++ type_line rows.BorrowType)
definition_line rows.StreamType = group (w "type" ++ type_line rows.StreamType)
definition_line rows.FutureType = group (w "type" ++ type_line rows.FutureType)
definition_line rows.FunctionType = group (w "type" ++ type_line rows.FunctionType)
definition_line rows.ComponentType = group (w "type" ++ type_line rows.ComponentType)
definition_line rows.InstanceType = group (w "type" ++ type_line rows.InstanceType)
definition_line rows.ResourceType = group (w "type" ++ type_line rows.ResourceType)
-- canonical functions
definition_line rows.Lift = group (w "canon" ++ (w "lift" ++ (group (w "core" ++ (w "func" ++ part 1 number)) ++ (part 2 each ++ group (w "func" ++ group (w "type" ++ part 0 number))))))
definition_line rows.Lower = built_in "lower" (group (w "func" ++ part 0 number) ++ part 1 each)
definition_line rows.ResourceNew = of_type "resource.new"
definition_line rows.ResourceDrop = of_type "resource.drop"
definition_line rows.ResourceRep = of_type "resource.rep"
definition_line rows.TaskCancel = built_in "task.cancel" []
definition_line rows.SubtaskCancel = built_in "subtask.cancel" (part 0 (flag "async"))
definition_line rows.SubtaskDrop = built_in "subtask.drop" []
definition_line rows.TaskReturn = built_in "task.return" (part 0 (optional_in "result" value) ++ part 1 each)
definition_line rows.ContextGet = of_context "context.get"
definition_line rows.ContextSet = of_context "context.set"
definition_line rows.StreamNew = of_type "stream.new"
definition_line rows.StreamRead = of_type_with "stream.read"
definition_line rows.StreamWrite = of_type_with "stream.write"
definition_line rows.StreamCancelRead = of_type_async "stream.cancel-read"
definition_line rows.StreamCancelWrite = of_type_async "stream.cancel-write"
definition_line rows.StreamDropReadable = of_type "stream.drop-readable"
definition_line rows.StreamDropWritable = of_type "stream.drop-writable"
definition_line rows.FutureNew = of_type "future.new"
definition_line rows.FutureRead = of_type_with "future.read"
definition_line rows.FutureWrite = of_type_with "future.write"
definition_line rows.FutureCancelRead = of_type_async "future.cancel-read"
definition_line rows.FutureCancelWrite = of_type_async "future.cancel-write"
definition_line rows.FutureDropReadable = of_type "future.drop-readable"
definition_line rows.FutureDropWritable = of_type "future.drop-writable"
definition_line rows.ErrorContextNew = of_options "error-context.new"
definition_line rows.ErrorContextDebugMessage = of_options "error-context.debug-message"
definition_line rows.ErrorContextDrop = built_in "error-context.drop" []
definition_line rows.WaitableSetNew = built_in "waitable-set.new" []
definition_line rows.WaitableSetDrop = built_in "waitable-set.drop" []
definition_line rows.WaitableJoin = built_in "waitable.join" []
definition_line rows.BackpressureInc = built_in "backpressure.inc" []
definition_line rows.BackpressureDec = built_in "backpressure.dec" []
definition_line rows.ThreadSpawnRef = of_type "thread.spawn-ref"
definition_line rows.ThreadSpawnIndirect = built_in "thread.spawn-indirect" (part 0 number ++ part 1 number)
definition_line rows.ThreadAvailableParallelism = built_in "thread.available-parallelism" []
-- start, imports and exports, custom sections
definition_line rows.Start = group (w "start" ++ (part 0 number ++ (part 1 (each_in "value") ++ part 2 results)))
definition_line rows.Import = group (w "import" ++ (part 0 string ++ part 1 one))
definition_line rows.Export = group (w "export" ++ (part 0 string ++ (group (part 2 item) ++ part 1 (optional one))))
definition_line rows.ExportType = group (w "export" ++ (part 0 string ++ part 1 one))
definition_line rows.Custom = token (printed.note (codes "(@custom")) ∷ (part 0 string ++ (part 1 payload ++ token printed.closing ∷ []))
definition_line _ = []

-- the definitions of the type of a core module
abbrev pub module_definition_line : Row → List Piece
module_definition_line rows.CoreFunctionType = group (w "type" ++ core_function)
module_definition_line rows.CoreRec = group (w "rec" ++ part 0 (each_in "type"))
module_definition_line rows.AliasOuter = group (w "alias" ++ (w "outer" ++ (part 0 number ++ (part 1 number ++ group (w "type")))))
module_definition_line rows.ModuleImport = group (w "import" ++ (part 0 string ++ (part 1 string ++ part 2 one)))
module_definition_line rows.ModuleExport = group (w "export" ++ (part 0 string ++ part 1 one))
module_definition_line _ = []

abbrev pub definition_in : ScopeKind → Row → List Piece
definition_in kinds.ModuleType t = module_definition_line t
definition_in _ t = definition_line t

-- ---- rows that stand in others

abbrev pub inner_line : Row → List Piece
-- entries of lists
inner_line rows.CoreValueType = part 0 core_value
inner_line rows.CoreFunctionType = core_function
inner_line rows.NamedType = part 0 string ++ part 1 value
inner_line rows.CaseType = part 1 string ++ part 2 (optional value)
inner_line rows.LoneType = part 0 value
inner_line rows.LoneName = part 0 string
inner_line rows.CoreArgument = part 0 string ++ group (w "instance" ++ part 1 number)
inner_line rows.CoreBundleExport = part 0 string ++ group (part 1 core_item)
inner_line rows.Argument = part 0 string ++ group (part 1 item)
inner_line rows.BundleExport = part 0 string ++ group (part 1 item)
inner_line rows.StartArgument = part 0 number
-- options of canonical functions
inner_line rows.OptionUtf8 = w "string-encoding=utf8"
inner_line rows.OptionUtf16 = w "string-encoding=utf16"
inner_line rows.OptionLatin1Utf16 = w "string-encoding=latin1+utf16"
inner_line rows.OptionMemory = group (w "memory" ++ part 0 number)
inner_line rows.OptionRealloc = group (w "realloc" ++ part 0 number)
inner_line rows.OptionPostReturn = group (w "post-return" ++ part 0 number)
inner_line rows.OptionAsync = w "async"
inner_line rows.OptionCallback = group (w "callback" ++ part 0 number)
-- descriptions of imports and exports
inner_line rows.ModuleDescription = group (w "core" ++ (w "module" ++ group (w "type" ++ part 0 number)))
inner_line rows.FuncDescription = group (w "func" ++ group (w "type" ++ part 0 number))
inner_line rows.ComponentDescription = group (w "component" ++ group (w "type" ++ part 0 number))
inner_line rows.InstanceDescription = group (w "instance" ++ group (w "type" ++ part 0 number))
inner_line rows.TypeEq = group (w "type" ++ group (w "eq" ++ part 0 number))
inner_line rows.SubResource = group (w "type" ++ group (w "sub" ++ w "resource"))
-- entities of module types
inner_line rows.FuncEntity = group (w "func" ++ group (w "type" ++ part 0 number))
inner_line rows.TableEntity = group (w "table" ++ (part 1 number ++ (part 2 (optional number) ++ part 0 element)))
inner_line rows.MemoryEntity = group (w "memory" ++ (part 0 number ++ part 1 (optional number)))
inner_line rows.GlobalEntity = group (w "global" ++ (part 1 opens_mutable ++ (part 0 core_value ++ part 1 closes_mutable)))
inner_line _ = []
