-- The leaves of each row, in the order in which they are visited, and when a scope fits its rows (Component Model binary format).
use Rattle.std.specs.Prelude.{ℕ, ◌==◌, nat_lt, nat_le, Bool, true, false, cond, ◌||◌, ◌&&◌, IsTrue, List, [], ◌∷◌, ◌++◌, ⊤}
use Rattle.comp_model.specs.declared.Space.{Space}
use Rattle.comp_model.specs.declared.Space.TheVariants.{CoreFunc, CoreTable, CoreMemory, CoreGlobal, CoreTag, CoreType, CoreModule, CoreInstance, Func, Value, Ty, Component, Instance}
use Rattle.comp_model.specs.declared.row.Row.TheVariants as rows
use Rattle.comp_model.specs.declared.row.Row.{Row}
use Rattle.comp_model.specs.RowNumbers.{is_row, canonical_rows, unwritten_canonical_rows}
use Rattle.comp_model.specs.Core.{Id, same_id, Place, counted, named, Reach, outward, own, at_place, CoreValue, ref_name}
use Rattle.comp_model.specs.Model.{Leaf, text, number, kind, core_value, ref, place, absent, present, node, nodes, case_id, result_ids, result_count, core_source, module_bytes, scope, Target, index, numeral, name, path, inline, bundle, Path, export_of, Leaves, no_leaf, ◌▸◌, row, Nodes, no_node, one_node, define, Defs, no_def, one_def, Scope, scope_of}
use Rattle.comp_model.specs.declared.row.ScopeKind.{ScopeKind}
use Rattle.comp_model.specs.declared.row.ScopeKind.TheVariants as kinds
use Rattle.comp_model.specs.Spaces.{same_space}

-- what one leaf of a row is
pub data Shape : Type 0 where
  a_text : Shape
  -- the payload of a custom section, of any bytes
  a_payload : Shape
  -- a number; 0 or 1; the code of a primitive type
  a_number : Shape
  a_flag : Shape
  a_primitive : Shape
  -- a kind, and one of core items
  a_kind : Shape
  a_core_kind : Shape
  -- a core value type that looks outward, and one that looks for names in its own scope alone
  a_core_value : Shape
  an_own_core_value : Shape
  -- the first part of an outer alias, and its second, whose reach is that part
  a_place : Shape
  a_placed_ref : Shape
  -- a reference that looks outward: into a space, by an index alone or by a path too, into that of one of these sorts, or into that of any sort
  an_index : Space → Shape
  a_ref : Space → Shape
  a_ref_of : List Space → Shape
  any_ref : Shape
  -- a reference in whose place a type of its kind may stand: of a function, a component, an instance, a core module; and a signature of a
  -- module type, which looks for names in its own scope alone and is no path
  a_function_use : Shape
  a_component_use : Shape
  an_instance_use : Shape
  a_module_use : Shape
  a_signature_use : Shape
  -- an argument of an instantiation, in whose place a list of exports may stand
  an_argument : Shape
  a_core_argument : Shape
  -- the code of a primitive type, or a reference into the types, in whose place a type may stand, and which is no path
  a_value_type : Shape
  -- the name of an import or export: a text, or a text with attributes
  a_name : Shape
  an_option : Shape → Shape
  -- one node, or a list of nodes, of one of these rows
  a_node : List Row → Shape
  a_list : List Row → Shape
  a_case_id : Shape
  the_results : Shape
  the_module : Shape
  a_scope : ScopeKind → Shape

-- ---- rows that stand in one place of others

-- what an import or export may be
abbrev pub descriptions : List Row
descriptions = rows.ModuleDescription ∷ rows.FuncDescription ∷ rows.ValueDescription ∷ rows.TypeEq ∷ rows.SubResource ∷ rows.ComponentDescription ∷ rows.InstanceDescription ∷ []

-- what an import or export of a module type may be
abbrev pub entities : List Row
entities = rows.FuncEntity ∷ rows.TableEntity ∷ rows.MemoryEntity ∷ rows.GlobalEntity ∷ rows.OtherEntity ∷ []

-- the options of canonical functions
abbrev pub options : List Row
options = rows.OptionUtf8 ∷ rows.OptionUtf16 ∷ rows.OptionLatin1Utf16 ∷ rows.OptionMemory ∷ rows.OptionRealloc ∷ rows.OptionPostReturn ∷ rows.OptionAsync ∷ rows.OptionCallback ∷ rows.OptionGc ∷ rows.OptionCoreType ∷ []

-- the types that are written inside others in parentheses
abbrev pub value_rows : List Row
value_rows = rows.RecordType ∷ rows.VariantType ∷ rows.ListType ∷ rows.FixedLengthListType ∷ rows.MapType ∷ rows.TupleType ∷ rows.FlagsType ∷ rows.EnumType ∷ rows.OptionType ∷ rows.ResultType
    ∷ rows.OwnType ∷ rows.BorrowType ∷ rows.StreamType ∷ rows.FutureType ∷ []

-- the types that may stand in the place of a reference
abbrev pub inline_rows : Shape → List Row
inline_rows a_value_type = value_rows
inline_rows a_function_use = rows.FunctionType ∷ []
inline_rows a_component_use = rows.ComponentType ∷ []
inline_rows an_instance_use = rows.InstanceType ∷ []
inline_rows a_module_use = rows.ModuleType ∷ []
inline_rows a_signature_use = rows.CoreFunctionType ∷ []
inline_rows _ = []

-- the bundles that may stand in the place of an argument
abbrev pub bundle_rows : Shape → Space → List Row
bundle_rows an_argument Instance = rows.Bundle ∷ []
bundle_rows a_core_argument CoreInstance = rows.CoreBundle ∷ []
bundle_rows _ _ = []

-- the sorts of core items
abbrev pub core_sorts : List Space
core_sorts = CoreFunc ∷ CoreTable ∷ CoreMemory ∷ CoreGlobal ∷ CoreTag ∷ CoreType ∷ CoreModule ∷ CoreInstance ∷ []

-- ---- the table

-- the leaves of each row, in the order in which they are visited
abbrev pub leaves_of : Row → List Shape
-- core modules, core instances and core types
leaves_of rows.CoreModule = the_module ∷ []
leaves_of rows.CoreInstantiate = a_ref CoreModule ∷ a_list (rows.CoreArgument ∷ []) ∷ []
leaves_of rows.CoreArgument = a_text ∷ a_core_argument ∷ []
leaves_of rows.CoreBundle = a_list (rows.CoreBundleExport ∷ []) ∷ []
leaves_of rows.CoreBundleExport = a_text ∷ a_ref_of core_sorts ∷ []
leaves_of rows.CoreFunctionType = a_list (rows.CoreValueType ∷ []) ∷ a_list (rows.CoreValueType ∷ []) ∷ []
leaves_of rows.CoreValueType = an_own_core_value ∷ []
leaves_of rows.CoreRec = a_list (rows.CoreFunctionType ∷ rows.OtherCoreType ∷ []) ∷ []
leaves_of rows.ModuleType = a_scope kinds.ModuleType ∷ []
leaves_of rows.ModuleImport = a_text ∷ a_text ∷ a_node entities ∷ []
leaves_of rows.ModuleExport = a_text ∷ a_node entities ∷ []
leaves_of rows.FuncEntity = a_signature_use ∷ []
leaves_of rows.TableEntity = an_own_core_value ∷ a_number ∷ an_option a_number ∷ []
leaves_of rows.MemoryEntity = a_number ∷ an_option a_number ∷ []
leaves_of rows.GlobalEntity = an_own_core_value ∷ a_flag ∷ []
-- components, instances and aliases
leaves_of rows.Component = a_scope kinds.Component ∷ []
leaves_of rows.Instantiate = a_ref Component ∷ a_list (rows.Argument ∷ []) ∷ []
leaves_of rows.Argument = a_text ∷ an_argument ∷ []
leaves_of rows.Bundle = a_list (rows.BundleExport ∷ []) ∷ []
leaves_of rows.BundleExport = a_name ∷ any_ref ∷ []
leaves_of rows.AliasExport = an_index Instance ∷ a_text ∷ a_kind ∷ []
leaves_of rows.AliasCoreExport = an_index CoreInstance ∷ a_text ∷ a_core_kind ∷ []
leaves_of rows.AliasOuter = a_place ∷ a_placed_ref ∷ a_kind ∷ []
-- types
leaves_of rows.Primitive = a_primitive ∷ []
leaves_of rows.RecordType = a_list (rows.NamedType ∷ []) ∷ []
leaves_of rows.NamedType = a_text ∷ a_value_type ∷ []
leaves_of rows.VariantType = a_list (rows.CaseType ∷ []) ∷ []
leaves_of rows.CaseType = a_case_id ∷ a_text ∷ an_option a_value_type ∷ []
leaves_of rows.ListType = a_value_type ∷ []
leaves_of rows.FixedLengthListType = a_value_type ∷ a_number ∷ []
leaves_of rows.MapType = a_value_type ∷ a_value_type ∷ []
leaves_of rows.TupleType = a_list (rows.LoneType ∷ []) ∷ []
leaves_of rows.LoneType = a_value_type ∷ []
leaves_of rows.FlagsType = a_list (rows.LoneName ∷ []) ∷ []
leaves_of rows.EnumType = a_list (rows.LoneName ∷ []) ∷ []
leaves_of rows.LoneName = a_text ∷ []
leaves_of rows.OptionType = a_value_type ∷ []
leaves_of rows.ResultType = an_option a_value_type ∷ an_option a_value_type ∷ []
leaves_of rows.OwnType = an_index Ty ∷ []
leaves_of rows.BorrowType = an_index Ty ∷ []
leaves_of rows.StreamType = an_option a_value_type ∷ []
leaves_of rows.FutureType = an_option a_value_type ∷ []
leaves_of rows.FunctionType = a_flag ∷ a_list (rows.NamedType ∷ []) ∷ an_option a_value_type ∷ []
leaves_of rows.ComponentType = a_scope kinds.ComponentType ∷ []
leaves_of rows.InstanceType = a_scope kinds.InstanceType ∷ []
leaves_of rows.ResourceType = a_core_value ∷ an_option (a_ref CoreFunc) ∷ []
-- canonical functions and their options
leaves_of rows.Lift = a_function_use ∷ a_ref CoreFunc ∷ a_list options ∷ []
leaves_of rows.Lower = a_ref Func ∷ a_list options ∷ []
leaves_of rows.ResourceNew = a_ref Ty ∷ []
leaves_of rows.ResourceDrop = a_ref Ty ∷ []
leaves_of rows.ResourceRep = a_ref Ty ∷ []
leaves_of rows.SubtaskCancel = a_flag ∷ []
leaves_of rows.TaskReturn = an_option a_value_type ∷ a_list options ∷ []
leaves_of rows.ContextGet = a_core_value ∷ a_number ∷ []
leaves_of rows.ContextSet = a_core_value ∷ a_number ∷ []
leaves_of rows.StreamNew = a_ref Ty ∷ []
leaves_of rows.StreamRead = a_ref Ty ∷ a_list options ∷ []
leaves_of rows.StreamWrite = a_ref Ty ∷ a_list options ∷ []
leaves_of rows.StreamForward = a_ref Ty ∷ []
leaves_of rows.StreamCancelRead = a_ref Ty ∷ a_flag ∷ []
leaves_of rows.StreamCancelWrite = a_ref Ty ∷ a_flag ∷ []
leaves_of rows.StreamDropReadable = a_ref Ty ∷ []
leaves_of rows.StreamDropWritable = a_ref Ty ∷ []
leaves_of rows.FutureNew = a_ref Ty ∷ []
leaves_of rows.FutureRead = a_ref Ty ∷ a_list options ∷ []
leaves_of rows.FutureWrite = a_ref Ty ∷ a_list options ∷ []
leaves_of rows.FutureForward = a_ref Ty ∷ []
leaves_of rows.FutureCancelRead = a_ref Ty ∷ a_flag ∷ []
leaves_of rows.FutureCancelWrite = a_ref Ty ∷ a_flag ∷ []
leaves_of rows.FutureDropReadable = a_ref Ty ∷ []
leaves_of rows.FutureDropWritable = a_ref Ty ∷ []
leaves_of rows.ErrorContextNew = a_list options ∷ []
leaves_of rows.ErrorContextDebugMessage = a_list options ∷ []
leaves_of rows.WaitableSetWait = a_ref CoreMemory ∷ []
leaves_of rows.WaitableSetPoll = a_ref CoreMemory ∷ []
leaves_of rows.ThreadSpawnRef = a_ref CoreType ∷ []
leaves_of rows.ThreadSpawnIndirect = a_ref CoreType ∷ a_ref CoreTable ∷ []
leaves_of rows.ThreadNewIndirect = a_ref CoreType ∷ a_ref CoreTable ∷ []
leaves_of rows.OptionMemory = a_ref CoreMemory ∷ []
leaves_of rows.OptionRealloc = a_ref CoreFunc ∷ []
leaves_of rows.OptionPostReturn = a_ref CoreFunc ∷ []
leaves_of rows.OptionCallback = a_ref CoreFunc ∷ []
leaves_of rows.OptionCoreType = a_ref CoreType ∷ []
-- start, imports and exports, custom sections
leaves_of rows.Start = an_index Func ∷ a_list (rows.StartArgument ∷ []) ∷ the_results ∷ []
leaves_of rows.StartArgument = a_ref Value ∷ []
leaves_of rows.Import = a_name ∷ a_node descriptions ∷ []
leaves_of rows.Export = a_name ∷ an_option (a_node descriptions) ∷ any_ref ∷ []
leaves_of rows.ExportType = a_name ∷ a_node descriptions ∷ []
leaves_of rows.AttributedName = a_text ∷ an_option a_text ∷ an_option a_text ∷ an_option a_text ∷ []
leaves_of rows.ModuleDescription = a_module_use ∷ []
leaves_of rows.FuncDescription = a_function_use ∷ []
leaves_of rows.ValueDescription = a_value_type ∷ []
leaves_of rows.TypeEq = an_index Ty ∷ []
leaves_of rows.ComponentDescription = a_component_use ∷ []
leaves_of rows.InstanceDescription = an_instance_use ∷ []
leaves_of rows.Custom = a_text ∷ a_payload ∷ []
leaves_of rows.Producers = a_list (rows.Producer ∷ []) ∷ a_list (rows.Producer ∷ []) ∷ a_list (rows.Producer ∷ []) ∷ []
leaves_of rows.Producer = a_text ∷ a_text ∷ []
-- the other built-ins and options, and what is read and never written, have none
leaves_of _ = []

-- the rows of the definitions of a scope
abbrev pub core_types : List Row
core_types = rows.CoreFunctionType ∷ rows.CoreRec ∷ rows.ModuleType ∷ rows.OtherCoreType ∷ []

-- the types of a component
abbrev pub types : List Row
types = rows.Primitive ∷ rows.ResourceType ∷ rows.FunctionType ∷ rows.ComponentType ∷ rows.InstanceType ∷ value_rows

-- the three aliases
abbrev pub aliases : List Row
aliases = rows.AliasExport ∷ rows.AliasCoreExport ∷ rows.AliasOuter ∷ []

-- all canonical functions, those too that are read and never written
abbrev pub canonical_functions : List Row
canonical_functions = canonical_rows ++ unwritten_canonical_rows

-- whether a space is among these
abbrev pub is_space : Space → List Space → Bool
is_space s [] = false
is_space s (t ∷ ts) = same_space s t || is_space s ts

-- whether a row is that of a definition in a scope of this kind
abbrev pub may_define : ScopeKind → Row → Bool
may_define kinds.Component t = is_row t core_types || (is_row t types || (is_row t aliases || (is_row t canonical_functions
    || is_row t (rows.CoreModule ∷ rows.CoreInstantiate ∷ rows.CoreBundle ∷ rows.Component ∷ rows.Instantiate ∷ rows.Bundle ∷ rows.Start ∷ rows.Import ∷ rows.Export ∷ rows.Custom ∷ rows.Producers ∷ []))))
may_define kinds.ComponentType t = is_row t core_types || (is_row t types || (is_row t aliases || is_row t (rows.Import ∷ rows.ExportType ∷ [])))
may_define kinds.InstanceType t = is_row t core_types || (is_row t types || (is_row t aliases || is_row t (rows.ExportType ∷ [])))
may_define kinds.ModuleType t = is_row t core_types || is_row t (rows.AliasOuter ∷ rows.ModuleImport ∷ rows.ModuleExport ∷ [])

-- ---- what leaves of one row ask of each other

-- the second part of an outer alias has the first for its reach, offsets too, where it is a name
abbrev pub same_id_token : Id → Id → Bool
same_id_token x y = same_id x y && (x.offset == y.offset)

abbrev pub same_place_token : Place → Place → Bool
same_place_token (counted o d) (counted p e) = (o == p) && (d == e)
same_place_token (named o x) (named p y) = (o == p) && same_id_token x y
same_place_token _ _ = false

abbrev pub stands_at : Place → Target → Bool
stands_at p (name (at_place q) x) = same_place_token p q
stands_at p (numeral o n) = true
stands_at p (index i) = true
stands_at p _ = false

-- the kinds of an outer alias: of core types alone in the type of a core module
abbrev pub is_outer_kind : ScopeKind → Space → Bool
is_outer_kind kinds.ModuleType s = same_space s CoreType
is_outer_kind _ s = true

-- the kind of an outer alias is the space of its reference
abbrev pub is_outer_alias : ScopeKind → Leaves → Bool
is_outer_alias k (place p ▸ ref s t ▸ kind r ▸ no_leaf) = same_space s r && (is_outer_kind k s && stands_at p t)
is_outer_alias k _ = false

abbrev pub fits_together : ScopeKind → Row → Leaves → Bool
fits_together k rows.AliasOuter ls = is_outer_alias k ls
fits_together k _ ls = true

-- ---- when a scope fits its rows

-- what stands in the place of a leaf
abbrev pub fits_space : Shape → Space → Bool
fits_space (an_index s) t = same_space s t
fits_space (a_ref s) t = same_space s t
fits_space (a_ref_of ss) t = is_space t ss
fits_space any_ref t = true
fits_space a_placed_ref t = true
fits_space an_argument t = true
fits_space a_core_argument t = same_space CoreInstance t
fits_space a_function_use t = same_space Ty t
fits_space a_component_use t = same_space Ty t
fits_space an_instance_use t = same_space Ty t
fits_space a_module_use t = same_space CoreType t
fits_space a_signature_use t = same_space CoreType t
fits_space a_value_type t = same_space Ty t
fits_space _ t = false

-- how far the names of a reference or of a core value type are looked for
abbrev pub fits_reach : Shape → Reach → Bool
fits_reach a_placed_ref (at_place p) = true
fits_reach a_placed_ref r = false
fits_reach a_signature_use own = true
fits_reach a_signature_use r = false
fits_reach an_own_core_value own = true
fits_reach an_own_core_value r = false
fits_reach s outward = true
fits_reach s r = false

-- an export name stands behind the root, one alone in a core instance
abbrev pub is_core_path : Space → Bool
is_core_path CoreFunc = true
is_core_path CoreTable = true
is_core_path CoreMemory = true
is_core_path CoreGlobal = true
is_core_path CoreTag = true
is_core_path CoreType = true
is_core_path CoreInstance = true
is_core_path _ = false

abbrev pub has_steps : Path → Bool
has_steps (export_of p x) = true
has_steps _ = false

abbrev pub has_one_step : Path → Bool
has_one_step (export_of (export_of p y) x) = false
has_one_step (export_of p x) = true
has_one_step _ = false

abbrev pub path_into : Space → Path → Bool
path_into s p = cond (is_core_path s) (has_one_step p) (has_steps p)

-- the references that may be paths (Component Model, Explainer.md, Alias Definitions); the others are an index or a name alone: the instance of
-- an alias (Alias Definitions), the resource of a handle, a bound and a value type (Type Definitions), the function of a start (Start
-- Definitions), and what stands in the type of a core module
abbrev pub takes_path : Shape → Bool
takes_path (an_index s) = false
takes_path a_placed_ref = false
takes_path a_signature_use = false
takes_path a_value_type = false
takes_path _ = true

abbrev pub fits_path : Shape → Space → Path → Bool
fits_path s r p = takes_path s && path_into r p

-- a text, a payload, or the text of a name
abbrev pub is_text : Shape → Bool
is_text a_text = true
is_text a_payload = true
is_text a_name = true
is_text _ = false

-- the codes of primitive types (Component Model, binary format, Type Definitions)
abbrev pub is_primitive_code : ℕ → Bool
is_primitive_code n = (n == 0x64) || (nat_le 0x73 n && nat_le n 0x7f)

-- a number: of any size, 0 or 1, or the code of a primitive type
abbrev pub fits_number : Shape → ℕ → Bool
fits_number a_number n = true
fits_number a_flag n = nat_lt n 2
fits_number a_primitive n = is_primitive_code n
fits_number a_value_type n = is_primitive_code n
fits_number _ n = false

-- whether the part may be missing
abbrev pub is_optional : Shape → Bool
is_optional (an_option s) = true
is_optional _ = false

-- what the part is where it is there
abbrev pub the_option : Shape → Shape
the_option (an_option s) = s
the_option s = s

-- the rows of a single node
abbrev pub rows_of_node : Shape → List Row
rows_of_node (a_node ts) = ts
rows_of_node a_name = rows.AttributedName ∷ []
rows_of_node _ = []

-- the rows of the entries of a list
abbrev pub rows_of_list : Shape → List Row
rows_of_list (a_list ts) = ts
rows_of_list _ = []

-- a scope of that kind
abbrev pub has_scope : Shape → ScopeKind → Bool
has_scope (a_scope kinds.Component) kinds.Component = true
has_scope (a_scope kinds.ComponentType) kinds.ComponentType = true
has_scope (a_scope kinds.InstanceType) kinds.InstanceType = true
has_scope (a_scope kinds.ModuleType) kinds.ModuleType = true
has_scope _ _ = false

-- the shapes of the other leaves, one test each
abbrev pub is_list : Shape → Bool
is_list (a_list ts) = true
is_list _ = false

abbrev pub is_kind : Shape → Bool
is_kind a_kind = true
is_kind a_core_kind = true
is_kind _ = false

-- a kind of its row
abbrev pub fits_kind : Shape → Space → Bool
fits_kind a_kind s = true
fits_kind a_core_kind s = is_space s core_sorts
fits_kind _ s = false

abbrev pub is_core_value : Shape → Bool
is_core_value a_core_value = true
is_core_value an_own_core_value = true
is_core_value _ = false

-- a core value type, whose name has the reach of its row
abbrev pub value_reaches : Shape → CoreValue → Bool
value_reaches s (ref_name b r x) = fits_reach s r
value_reaches s v = true

abbrev pub fits_value : Shape → CoreValue → Bool
fits_value s v = is_core_value s && value_reaches s v

abbrev pub is_place : Shape → Bool
is_place a_place = true
is_place _ = false

abbrev pub is_case_id : Shape → Bool
is_case_id a_case_id = true
is_case_id _ = false

abbrev pub is_results : Shape → Bool
is_results the_results = true
is_results _ = false

abbrev pub is_module : Shape → Bool
is_module the_module = true
is_module _ = false

abbrev mutual
  pub ShapedLeaf : Leaf → Shape → Type 0
  ShapedLeaf (text t) s = IsTrue (is_text s)
  ShapedLeaf (number n) s = IsTrue (fits_number s n)
  ShapedLeaf (kind k) s = IsTrue (fits_kind s k)
  ShapedLeaf (core_value v) s = IsTrue (fits_value s v)
  ShapedLeaf (ref r t) s = IsTrue (fits_space s r) × ShapedTarget s t r
  ShapedLeaf (place p) s = IsTrue (is_place s)
  ShapedLeaf absent s = IsTrue (is_optional s)
  ShapedLeaf (present l) s = IsTrue (is_optional s) × ShapedLeaf l (the_option s)
  ShapedLeaf (node (row t ls)) s = IsTrue (is_row t (rows_of_node s)) × ShapedLeaves ls (leaves_of t)
  ShapedLeaf (nodes ns) s = IsTrue (is_list s) × ShapedNodes ns (rows_of_list s)
  ShapedLeaf (case_id x) s = IsTrue (is_case_id s)
  ShapedLeaf (result_ids ids) s = IsTrue (is_results s)
  ShapedLeaf (result_count n) s = IsTrue (is_results s)
  ShapedLeaf (core_source c) s = IsTrue (is_module s)
  ShapedLeaf (module_bytes bs) s = IsTrue (is_module s)
  ShapedLeaf (scope (scope_of k id label ds)) s = IsTrue (has_scope s k) × ShapedDefs ds k

  -- a reference of the shape into the space
  pub ShapedTarget : Shape → Target → Space → Type 0
  ShapedTarget s (inline (row t ls)) r = IsTrue (is_row t (inline_rows s)) × ShapedLeaves ls (leaves_of t)
  ShapedTarget s (bundle (row t ls)) r = IsTrue (is_row t (bundle_rows s r)) × ShapedLeaves ls (leaves_of t)
  ShapedTarget s (name q x) r = IsTrue (fits_reach s q)
  ShapedTarget s (path p) r = IsTrue (fits_path s r p)
  ShapedTarget s _ r = ⊤

  pub ShapedLeaves : Leaves → List Shape → Type 0
  ShapedLeaves no_leaf [] = ⊤
  ShapedLeaves no_leaf (s ∷ ss) = ⊥
  ShapedLeaves (l ▸ ls) [] = ⊥
  ShapedLeaves (l ▸ ls) (s ∷ ss) = ShapedLeaf l s × ShapedLeaves ls ss

  pub ShapedNodes : Nodes → List Row → Type 0
  ShapedNodes no_node ts = ⊤
  ShapedNodes (one_node (row t ls) ns) ts = IsTrue (is_row t ts) × ShapedLeaves ls (leaves_of t) × ShapedNodes ns ts

  pub ShapedDefs : Defs → ScopeKind → Type 0
  ShapedDefs no_def k = ⊤
  ShapedDefs (one_def (define names (row t ls)) ds) k = IsTrue (may_define k t && fits_together k t ls) × ShapedLeaves ls (leaves_of t) × ShapedDefs ds k

-- each definition has a row of its scope, with that row's leaves
abbrev pub FitsRows : Scope → Type 0
FitsRows (scope_of k id label ds) = ShapedDefs ds k
