-- The writers' definitions as definitions of the model.
use Rattle.std.specs.Prelude.{List, [], ◌∷◌, None}
use Rattle.comp_model.specs.declared.Space.TheVariants as space
use Rattle.comp_model.specs.declared.row.Row.TheVariants as rows
use Rattle.comp_model.specs.Model as m
use Rattle.comp_model.specs.declared.row.ScopeKind.{ScopeKind}
use Rattle.comp_model.specs.declared.row.ScopeKind.TheVariants as kinds
use Rattle.comp_model.specs.Makers as make
use Rattle.comp_model.specs.Model.{Leaf, Node, Nodes, Def, define, Defs, no_def, one_def, no_names, Scope, scope_of}
use Rattle.comp_wire.specs.declared.canon.WireCanon.{WireCanon}
use Rattle.comp_wire.specs.declared.canon.WireCanon.TheVariants as canon
use Rattle.comp_wire.specs.declared.canon.CanonicalOption.{CanonicalOption}
use Rattle.comp_wire.specs.declared.types.WireCoreType.{WireCoreType, Func, Rec, Module', Row_of-WireDecl, end_of-WireDecl, more_of-WireDecl}
use Rattle.comp_wire.specs.declared.types.WireDecl.{WireDecl}
use Rattle.comp_wire.specs.declared.types.WireDecl.TheVariants as decl
use Rattle.comp_wire.specs.declared.types.WireType.{WireType, Component', Instance'}
use Rattle.comp_wire.specs.declared.types.WireType.TheVariants as ty
use Rattle.comp_wire.specs.declared.defs.WireDef as def
use Rattle.comp_wire.specs.declared.defs.WireDef.{WireDef, Row_of-WireDef, end_of-WireDef, more_of-WireDef}
use Rattle.comp_wire.specs.declared.names.NameMaps.{NameMaps}
use Rattle.comp_wire.specs.Values.{primitive_byte_of, value_of, optional_of, bit, index_of, rows_of_list, core_value_of, function_row, named_type_row, case_row, lone_type_row, lone_name_row, core_argument_row, core_export_row, argument_row, bundle_export_row, start_argument_row, option_row, description_row, description_leaf, entity_row, alias_row, extern_text, space_of}
use Rattle.comp_wire.specs.NameSection.{maps_of, name_definition, custom_row}

abbrev pub plain_def : Node → Def
plain_def n = define no_names n

abbrev pub option_rows : List CanonicalOption → Nodes
option_rows opts = rows_of_list option_row opts

abbrev pub options_leaf : List CanonicalOption → Leaf
options_leaf opts = m.nodes (option_rows opts)

abbrev pub canon_row : WireCanon → Node
canon_row (canon.Lift t f opts) = make.lift (m.index t) (m.index f) (option_rows opts)
canon_row (canon.Lower f opts) = make.lower (m.index f) (option_rows opts)
canon_row (canon.ResourceNew t) = make.of_type rows.ResourceNew (m.index t)
canon_row (canon.ResourceDrop t) = make.of_type rows.ResourceDrop (m.index t)
canon_row (canon.ResourceRep t) = make.of_type rows.ResourceRep (m.index t)
canon_row canon.TaskCancel = make.built_in rows.TaskCancel
canon_row (canon.SubtaskCancel a) = make.subtask_cancel (bit a)
canon_row canon.SubtaskDrop = make.built_in rows.SubtaskDrop
canon_row (canon.TaskReturn r opts) = make.task_return (optional_of value_of r) (option_rows opts)
canon_row (canon.ContextGet v n) = make.of_context rows.ContextGet (core_value_of v) n
canon_row (canon.ContextSet v n) = make.of_context rows.ContextSet (core_value_of v) n
canon_row (canon.StreamNew t) = make.of_type rows.StreamNew (m.index t)
canon_row (canon.StreamRead t opts) = make.of_type_with rows.StreamRead (m.index t) (option_rows opts)
canon_row (canon.StreamWrite t opts) = make.of_type_with rows.StreamWrite (m.index t) (option_rows opts)
canon_row (canon.StreamCancelRead t a) = make.of_type_async rows.StreamCancelRead (m.index t) (bit a)
canon_row (canon.StreamCancelWrite t a) = make.of_type_async rows.StreamCancelWrite (m.index t) (bit a)
canon_row (canon.StreamDropReadable t) = make.of_type rows.StreamDropReadable (m.index t)
canon_row (canon.StreamDropWritable t) = make.of_type rows.StreamDropWritable (m.index t)
canon_row (canon.FutureNew t) = make.of_type rows.FutureNew (m.index t)
canon_row (canon.FutureRead t opts) = make.of_type_with rows.FutureRead (m.index t) (option_rows opts)
canon_row (canon.FutureWrite t opts) = make.of_type_with rows.FutureWrite (m.index t) (option_rows opts)
canon_row (canon.FutureCancelRead t a) = make.of_type_async rows.FutureCancelRead (m.index t) (bit a)
canon_row (canon.FutureCancelWrite t a) = make.of_type_async rows.FutureCancelWrite (m.index t) (bit a)
canon_row (canon.FutureDropReadable t) = make.of_type rows.FutureDropReadable (m.index t)
canon_row (canon.FutureDropWritable t) = make.of_type rows.FutureDropWritable (m.index t)
canon_row (canon.ErrorContextNew opts) = make.of_options rows.ErrorContextNew (option_rows opts)
canon_row (canon.ErrorContextDebugMessage opts) = make.of_options rows.ErrorContextDebugMessage (option_rows opts)
canon_row canon.ErrorContextDrop = make.built_in rows.ErrorContextDrop
canon_row canon.WaitableSetNew = make.built_in rows.WaitableSetNew
canon_row canon.WaitableSetDrop = make.built_in rows.WaitableSetDrop
canon_row canon.WaitableJoin = make.built_in rows.WaitableJoin
canon_row canon.BackpressureInc = make.built_in rows.BackpressureInc
canon_row canon.BackpressureDec = make.built_in rows.BackpressureDec
canon_row (canon.ThreadSpawnRef t) = make.thread_spawn_ref (m.index t)
canon_row (canon.ThreadSpawnIndirect t table) = make.thread_spawn_indirect (m.index t) (m.index table)
canon_row canon.ThreadAvailableParallelism = make.built_in rows.ThreadAvailableParallelism

-- the declarations of a type
abbrev pub type_scope : ScopeKind → Defs → Scope
type_scope k ds = scope_of k None None ds

abbrev mutual
  pub core_type_row : WireCoreType → Node
  core_type_row (Func f) = function_row f
  core_type_row (Rec fs) = make.core_rec (rows_of_list function_row fs)
  core_type_row (Module' shape decls) = make.module_type (type_scope kinds.ModuleType (declarations_of_row decls))

  pub type_row : WireType → Node
  type_row (ty.Primitive p) = make.primitive (primitive_byte_of p)
  type_row (ty.Record fs) = make.record_type (rows_of_list named_type_row fs)
  type_row (ty.Variant cs) = make.variant_type (rows_of_list case_row cs)
  type_row (ty.List v) = make.list_type (value_of v)
  type_row (ty.FixedLengthList v n) = make.fixed_length_list_type (value_of v) n
  type_row (ty.Tuple vs) = make.tuple_type (rows_of_list lone_type_row vs)
  type_row (ty.Flags xs) = make.flags_type (rows_of_list lone_name_row xs)
  type_row (ty.Enum xs) = make.enum_type (rows_of_list lone_name_row xs)
  type_row (ty.Option v) = make.option_type (value_of v)
  type_row (ty.Result ok err) = make.result_type (optional_of value_of ok) (optional_of value_of err)
  type_row (ty.Own i) = make.own_type (m.index i)
  type_row (ty.Borrow i) = make.borrow_type (m.index i)
  type_row (ty.Stream v) = make.stream_type (optional_of value_of v)
  type_row (ty.Future v) = make.future_type (optional_of value_of v)
  type_row (ty.Func a ps r) = make.function_type (bit a) (rows_of_list named_type_row ps) (optional_of value_of r)
  type_row (Component' shape decls) = make.component_type (type_scope kinds.ComponentType (declarations_of_row decls))
  type_row (Instance' shape decls) = make.instance_type (type_scope kinds.InstanceType (declarations_of_row decls))
  type_row (ty.Resource rep dtor) = make.resource_type (core_value_of rep) (optional_of (index_of space.CoreFunc) dtor)

  pub declaration_row : WireDecl → Node
  declaration_row (decl.CoreType t) = core_type_row t
  declaration_row (decl.Ty t) = type_row t
  declaration_row (decl.Alias a) = alias_row a
  declaration_row (decl.Import x d) = make.import_row (extern_text x) (description_row d)
  declaration_row (decl.Export x d) = make.export_type (extern_text x) (description_row d)
  declaration_row (decl.ModuleImport y x e) = make.module_import y.now x.now (entity_row e)
  declaration_row (decl.ModuleExport x e) = make.module_export x.now (entity_row e)

  pub declarations_of_row : {n : _} → Row_of-WireDecl n → Defs
  declarations_of_row end_of-WireDecl = no_def
  declarations_of_row (more_of-WireDecl d ds) = one_def (plain_def (declaration_row d)) (declarations_of_row ds)

-- the declarations of a list
abbrev pub declarations_of_list : List WireDecl → Defs
declarations_of_list [] = no_def
declarations_of_list (d ∷ ds) = one_def (plain_def (declaration_row d)) (declarations_of_list ds)

-- two lists of definitions, one behind the other
abbrev pub defs_append : Defs → Defs → Defs
defs_append no_def es = es
defs_append (one_def d ds) es = one_def d (defs_append ds es)

-- a component of these definitions
abbrev pub component_of_defs : Defs → Scope
component_of_defs ds = scope_of kinds.Component None None ds

abbrev pub component_row : Defs → Node
component_row ds = make.component (component_of_defs ds)

abbrev mutual
  pub definition_row : WireDef → Node
  definition_row (def.CoreModule bytes) = make.core_module (m.module_bytes bytes)
  definition_row (def.CoreInstantiate i args) = make.core_instantiate (m.index i) (rows_of_list core_argument_row args)
  definition_row (def.CoreBundle exports) = make.core_bundle (rows_of_list core_export_row exports)
  definition_row (def.CoreType t) = core_type_row t
  definition_row (def.Component' shape defs names) = component_row (defs_append (definitions_of_row defs) (name_definition (maps_of names)))
  definition_row (def.Instantiate i args) = make.instantiate (m.index i) (rows_of_list argument_row args)
  definition_row (def.Bundle exports) = make.bundle (rows_of_list bundle_export_row exports)
  definition_row (def.Alias a) = alias_row a
  definition_row (def.Ty t) = type_row t
  definition_row (def.Canon f) = canon_row f
  definition_row (def.Start f args n) = make.start (m.index f) (rows_of_list start_argument_row args) (m.result_count n)
  definition_row (def.Import x d) = make.import_row (extern_text x) (description_row d)
  definition_row (def.Export x d k i) = make.export_row (extern_text x) (optional_of description_leaf d) (space_of k) (m.index i)
  definition_row (def.Custom x payload) = custom_row x.now payload

  pub definitions_of_row : {n : _} → Row_of-WireDef n → Defs
  definitions_of_row end_of-WireDef = no_def
  definitions_of_row (more_of-WireDef d ds) = one_def (plain_def (definition_row d)) (definitions_of_row ds)

-- the definition of the model that a definition of the writers is
abbrev pub def_of : WireDef → Def
def_of d = plain_def (definition_row d)

-- the definitions of a list
abbrev pub wire_defs : List WireDef → Defs
wire_defs [] = no_def
wire_defs (d ∷ ds) = one_def (def_of d) (wire_defs ds)

-- the definitions of a list, and the name section behind them, where there is a name
abbrev pub named_defs : List WireDef → NameMaps → Defs
named_defs ds names = defs_append (wire_defs ds) (name_definition (maps_of names))

-- the component of a list of definitions, without names
abbrev pub component_of_list : List WireDef → Scope
component_of_list defs = component_of_defs (wire_defs defs)
