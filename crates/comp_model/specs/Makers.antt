-- A node of each row, made of its parts: the one place that puts the leaves of a row in order (Component Model, binary format).
use Rattle.std.specs.Prelude.{ℕ, Option}
use Rattle.comp_model.specs.declared.Space.{Space}
use Rattle.comp_model.specs.declared.Space.TheVariants as space
use Rattle.comp_model.specs.declared.row.Row.TheVariants as rows
use Rattle.comp_model.specs.declared.row.Row.{Row}
use Rattle.comp_model.specs.Core.{Text, Id, Place, CoreValue}
use Rattle.comp_model.specs.Model as m
use Rattle.comp_model.specs.Model.{Leaf, Target, no_leaf, ◌▸◌, Node, row, Nodes, Scope}

-- ---- core modules, core instances and core types

abbrev pub core_module : Leaf → Node
core_module code = row rows.CoreModule (code ▸ no_leaf)

abbrev pub core_instantiate : Target → Nodes → Node
core_instantiate source arguments = row rows.CoreInstantiate (m.ref space.CoreModule source ▸ m.nodes arguments ▸ no_leaf)

abbrev pub core_argument : Text → Target → Node
core_argument name instance = row rows.CoreArgument (m.text name ▸ m.ref space.CoreInstance instance ▸ no_leaf)

abbrev pub core_bundle : Nodes → Node
core_bundle exports = row rows.CoreBundle (m.nodes exports ▸ no_leaf)

abbrev pub core_bundle_export : Text → Space → Target → Node
core_bundle_export name s item = row rows.CoreBundleExport (m.text name ▸ m.ref s item ▸ no_leaf)

abbrev pub core_function_type : Nodes → Nodes → Node
core_function_type params results = row rows.CoreFunctionType (m.nodes params ▸ m.nodes results ▸ no_leaf)

abbrev pub core_value_type : CoreValue → Node
core_value_type v = row rows.CoreValueType (m.core_value v ▸ no_leaf)

abbrev pub core_rec : Nodes → Node
core_rec types = row rows.CoreRec (m.nodes types ▸ no_leaf)

abbrev pub module_type : Scope → Node
module_type s = row rows.ModuleType (m.scope s ▸ no_leaf)

abbrev pub module_import : Text → Text → Node → Node
module_import from name entity = row rows.ModuleImport (m.text from ▸ m.text name ▸ m.node entity ▸ no_leaf)

abbrev pub module_export : Text → Node → Node
module_export name entity = row rows.ModuleExport (m.text name ▸ m.node entity ▸ no_leaf)

abbrev pub func_entity : Target → Node
func_entity type = row rows.FuncEntity (m.ref space.CoreType type ▸ no_leaf)

abbrev pub table_entity : CoreValue → ℕ → Leaf → Node
table_entity element least most = row rows.TableEntity (m.core_value element ▸ m.number least ▸ most ▸ no_leaf)

abbrev pub memory_entity : ℕ → Leaf → Node
memory_entity least most = row rows.MemoryEntity (m.number least ▸ most ▸ no_leaf)

abbrev pub global_entity : CoreValue → ℕ → Node
global_entity value mutable = row rows.GlobalEntity (m.core_value value ▸ m.number mutable ▸ no_leaf)

-- ---- components, instances and aliases

abbrev pub component : Scope → Node
component s = row rows.Component (m.scope s ▸ no_leaf)

abbrev pub instantiate : Target → Nodes → Node
instantiate component arguments = row rows.Instantiate (m.ref space.Component component ▸ m.nodes arguments ▸ no_leaf)

abbrev pub argument : Text → Space → Target → Node
argument name s item = row rows.Argument (m.text name ▸ m.ref s item ▸ no_leaf)

abbrev pub bundle : Nodes → Node
bundle exports = row rows.Bundle (m.nodes exports ▸ no_leaf)

-- the name of an import or export: a text, or a node of a text with attributes
abbrev pub bundle_export : Leaf → Space → Target → Node
bundle_export name s item = row rows.BundleExport (name ▸ m.ref s item ▸ no_leaf)

abbrev pub alias_export : Target → Text → Space → Node
alias_export instance name kind = row rows.AliasExport (m.ref space.Instance instance ▸ m.text name ▸ m.kind kind ▸ no_leaf)

abbrev pub alias_core_export : Target → Text → Space → Node
alias_core_export instance name kind = row rows.AliasCoreExport (m.ref space.CoreInstance instance ▸ m.text name ▸ m.kind kind ▸ no_leaf)

-- the kind of an outer alias is the space of its reference
abbrev pub alias_outer : Place → Target → Space → Node
alias_outer outward item kind = row rows.AliasOuter (m.place outward ▸ m.ref kind item ▸ m.kind kind ▸ no_leaf)

-- ---- types

abbrev pub primitive : ℕ → Node
primitive code = row rows.Primitive (m.number code ▸ no_leaf)

abbrev pub record_type : Nodes → Node
record_type fields = row rows.RecordType (m.nodes fields ▸ no_leaf)

abbrev pub named_type : Text → Leaf → Node
named_type name value = row rows.NamedType (m.text name ▸ value ▸ no_leaf)

abbrev pub variant_type : Nodes → Node
variant_type cases = row rows.VariantType (m.nodes cases ▸ no_leaf)

abbrev pub case_type : Option Id → Text → Leaf → Node
case_type id name value = row rows.CaseType (m.case_id id ▸ m.text name ▸ value ▸ no_leaf)

abbrev pub list_type : Leaf → Node
list_type value = row rows.ListType (value ▸ no_leaf)

abbrev pub fixed_length_list_type : Leaf → ℕ → Node
fixed_length_list_type value length = row rows.FixedLengthListType (value ▸ m.number length ▸ no_leaf)

abbrev pub tuple_type : Nodes → Node
tuple_type values = row rows.TupleType (m.nodes values ▸ no_leaf)

abbrev pub lone_type : Leaf → Node
lone_type value = row rows.LoneType (value ▸ no_leaf)

abbrev pub flags_type : Nodes → Node
flags_type names = row rows.FlagsType (m.nodes names ▸ no_leaf)

abbrev pub enum_type : Nodes → Node
enum_type names = row rows.EnumType (m.nodes names ▸ no_leaf)

abbrev pub lone_name : Text → Node
lone_name name = row rows.LoneName (m.text name ▸ no_leaf)

abbrev pub option_type : Leaf → Node
option_type value = row rows.OptionType (value ▸ no_leaf)

abbrev pub result_type : Leaf → Leaf → Node
result_type ok err = row rows.ResultType (ok ▸ err ▸ no_leaf)

abbrev pub own_type : Target → Node
own_type type = row rows.OwnType (m.ref space.Ty type ▸ no_leaf)

abbrev pub borrow_type : Target → Node
borrow_type type = row rows.BorrowType (m.ref space.Ty type ▸ no_leaf)

abbrev pub stream_type : Leaf → Node
stream_type value = row rows.StreamType (value ▸ no_leaf)

abbrev pub future_type : Leaf → Node
future_type value = row rows.FutureType (value ▸ no_leaf)

abbrev pub function_type : ℕ → Nodes → Leaf → Node
function_type async params result = row rows.FunctionType (m.number async ▸ m.nodes params ▸ result ▸ no_leaf)

abbrev pub component_type : Scope → Node
component_type s = row rows.ComponentType (m.scope s ▸ no_leaf)

abbrev pub instance_type : Scope → Node
instance_type s = row rows.InstanceType (m.scope s ▸ no_leaf)

abbrev pub resource_type : CoreValue → Leaf → Node
resource_type rep destructor = row rows.ResourceType (m.core_value rep ▸ destructor ▸ no_leaf)

-- ---- canonical functions and their options

abbrev pub lift : Target → Target → Nodes → Node
lift type func options = row rows.Lift (m.ref space.Ty type ▸ m.ref space.CoreFunc func ▸ m.nodes options ▸ no_leaf)

abbrev pub lower : Target → Nodes → Node
lower func options = row rows.Lower (m.ref space.Func func ▸ m.nodes options ▸ no_leaf)

abbrev pub subtask_cancel : ℕ → Node
subtask_cancel async = row rows.SubtaskCancel (m.number async ▸ no_leaf)

abbrev pub task_return : Leaf → Nodes → Node
task_return result options = row rows.TaskReturn (result ▸ m.nodes options ▸ no_leaf)

abbrev pub thread_spawn_ref : Target → Node
thread_spawn_ref type = row rows.ThreadSpawnRef (m.ref space.CoreType type ▸ no_leaf)

abbrev pub thread_spawn_indirect : Target → Target → Node
thread_spawn_indirect type table = row rows.ThreadSpawnIndirect (m.ref space.CoreType type ▸ m.ref space.CoreTable table ▸ no_leaf)

-- built-ins alike: without parts; of a context; of a type; of a type and options; of a type, async or not; of options alone
abbrev pub built_in : Row → Node
built_in t = row t no_leaf

abbrev pub of_context : Row → CoreValue → ℕ → Node
of_context t v slot = row t (m.core_value v ▸ m.number slot ▸ no_leaf)

abbrev pub of_type : Row → Target → Node
of_type t type = row t (m.ref space.Ty type ▸ no_leaf)

abbrev pub of_type_with : Row → Target → Nodes → Node
of_type_with t type options = row t (m.ref space.Ty type ▸ m.nodes options ▸ no_leaf)

abbrev pub of_type_async : Row → Target → ℕ → Node
of_type_async t type async = row t (m.ref space.Ty type ▸ m.number async ▸ no_leaf)

abbrev pub of_options : Row → Nodes → Node
of_options t options = row t (m.nodes options ▸ no_leaf)

-- an option without an index, of a memory, and of a core function
abbrev pub plain_option : Row → Node
plain_option t = row t no_leaf

abbrev pub option_memory : Target → Node
option_memory memory = row rows.OptionMemory (m.ref space.CoreMemory memory ▸ no_leaf)

abbrev pub option_of_function : Row → Target → Node
option_of_function t func = row t (m.ref space.CoreFunc func ▸ no_leaf)

-- ---- start, imports and exports, custom sections

abbrev pub start : Target → Nodes → Leaf → Node
start func arguments results = row rows.Start (m.ref space.Func func ▸ m.nodes arguments ▸ results ▸ no_leaf)

abbrev pub start_argument : Target → Node
start_argument value = row rows.StartArgument (m.ref space.Value value ▸ no_leaf)

abbrev pub import_row : Leaf → Node → Node
import_row name description = row rows.Import (name ▸ m.node description ▸ no_leaf)

abbrev pub export_row : Leaf → Leaf → Space → Target → Node
export_row name description s item = row rows.Export (name ▸ description ▸ m.ref s item ▸ no_leaf)

abbrev pub export_type : Leaf → Node → Node
export_type name description = row rows.ExportType (name ▸ m.node description ▸ no_leaf)

abbrev pub module_description : Target → Node
module_description type = row rows.ModuleDescription (m.ref space.CoreType type ▸ no_leaf)

abbrev pub sub_resource : Node
sub_resource = row rows.SubResource no_leaf

-- the description of a function, a component, an instance or an equal type, by a type
abbrev pub described_by : Row → Target → Node
described_by t type = row t (m.ref space.Ty type ▸ no_leaf)

abbrev pub custom : Text → Text → Node
custom name payload = row rows.Custom (m.text name ▸ m.text payload ▸ no_leaf)

abbrev pub producers : Nodes → Nodes → Nodes → Node
producers language sdk processed_by = row rows.Producers (m.nodes language ▸ m.nodes sdk ▸ m.nodes processed_by ▸ no_leaf)

abbrev pub producer : Text → Text → Node
producer name version = row rows.Producer (m.text name ▸ m.text version ▸ no_leaf)
