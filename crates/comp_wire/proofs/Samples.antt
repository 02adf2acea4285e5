-- Whole components, computed, against bytes that were worked out by hand from the Component Model's binary format.
use Rattle.std.proofs.Common.{◌≡◌, ℕ, List, [], ◌∷◌, ◌++◌, refl, true, None, Some}
use Rattle.std.specs.Prelude.{pos, negsuc}
use Rattle.comp_model.specs.declared.Space.TheVariants as space
use Rattle.comp_model.specs.declared.row.Row.TheVariants as rows
use Rattle.comp_model.specs.Core as core
use Rattle.comp_model.specs.Model.{text, number, kind, core_value, ref, index, place, absent, present, node, nodes, case_id, result_count, module_bytes, scope, row, no_leaf, ◌▸◌, no_node, one_node, Defs, define, no_def, one_def, no_names, scope_of}
use Rattle.comp_model.specs.declared.row.ScopeKind.TheVariants as kinds
use Rattle.comp_model.specs.Leb.{leb, uleb, signed_leb}
use Rattle.comp_wire.specs.Sections.{preamble}
use Rattle.comp_wire.specs.Spelled.{spell_component}
use Rattle.comp_model.specs.Payloads.{name_of_section, name_payload}
use Rattle.comp_wire.specs.NameSection.{custom_row}

-- the bytes of a component of these definitions are these, behind the preamble
abbrev IsSpelled : Defs → List ℕ → Type 0
IsSpelled ds bytes = spell_component (scope_of kinds.Component None None ds) ≡ preamble ++ bytes

-- every primitive type
primitives : IsSpelled
    (one_def (define no_names (row rows.Primitive (number 0x7f ▸ no_leaf)))
    (one_def (define no_names (row rows.Primitive (number 0x7e ▸ no_leaf)))
    (one_def (define no_names (row rows.Primitive (number 0x7d ▸ no_leaf)))
    (one_def (define no_names (row rows.Primitive (number 0x7c ▸ no_leaf)))
    (one_def (define no_names (row rows.Primitive (number 0x7b ▸ no_leaf)))
    (one_def (define no_names (row rows.Primitive (number 0x7a ▸ no_leaf)))
    (one_def (define no_names (row rows.Primitive (number 0x79 ▸ no_leaf)))
    (one_def (define no_names (row rows.Primitive (number 0x78 ▸ no_leaf)))
    (one_def (define no_names (row rows.Primitive (number 0x77 ▸ no_leaf)))
    (one_def (define no_names (row rows.Primitive (number 0x76 ▸ no_leaf)))
    (one_def (define no_names (row rows.Primitive (number 0x75 ▸ no_leaf)))
    (one_def (define no_names (row rows.Primitive (number 0x74 ▸ no_leaf)))
    (one_def (define no_names (row rows.Primitive (number 0x73 ▸ no_leaf)))
    (one_def (define no_names (row rows.Primitive (number 0x64 ▸ no_leaf)))
    (no_def)))))))))))))))
    (0x07 ∷ 0x0f ∷ 0x0e ∷ 0x7f ∷ 0x7e ∷ 0x7d ∷ 0x7c ∷ 0x7b ∷ 0x7a ∷ 0x79 ∷ 0x78 ∷ 0x77 ∷ 0x76 ∷ 0x75 ∷ 0x74 ∷ 0x73 ∷ 0x64 ∷ [])
unfolding leb
primitives = refl

-- (record (field "a" u8) (field "b" 0))
record_row : IsSpelled
    (one_def (define no_names (row rows.RecordType (nodes (one_node (row rows.NamedType (text (0x61 ∷ []) ▸ number 0x7d ▸ no_leaf)) (one_node (row rows.NamedType (text (0x62 ∷ []) ▸ ref space.Ty (index 0) ▸ no_leaf)) (no_node))) ▸ no_leaf))) no_def)
    (0x07 ∷ 0x09 ∷ 0x01 ∷ 0x72 ∷ 0x02 ∷ 0x01 ∷ 0x61 ∷ 0x7d ∷ 0x01 ∷ 0x62 ∷ 0x00 ∷ [])
unfolding leb
record_row = refl

-- (variant (case "a" u8) (case "b"))
variant_row : IsSpelled
    (one_def (define no_names (row rows.VariantType (nodes (one_node (row rows.CaseType (case_id None ▸ text (0x61 ∷ []) ▸ present (number 0x7d) ▸ no_leaf)) (one_node (row rows.CaseType (case_id None ▸ text (0x62 ∷ []) ▸ absent ▸ no_leaf)) (no_node))) ▸ no_leaf))) no_def)
    (0x07 ∷ 0x0c ∷ 0x01 ∷ 0x71 ∷ 0x02 ∷ 0x01 ∷ 0x61 ∷ 0x01 ∷ 0x7d ∷ 0x00 ∷ 0x01 ∷ 0x62 ∷ 0x00 ∷ 0x00 ∷ [])
unfolding leb
variant_row = refl

-- a result in its four forms
results : IsSpelled
    (one_def (define no_names (row rows.ResultType (absent ▸ absent ▸ no_leaf)))
    (one_def (define no_names (row rows.ResultType (present (number 0x7d) ▸ absent ▸ no_leaf)))
    (one_def (define no_names (row rows.ResultType (absent ▸ present (number 0x7d) ▸ no_leaf)))
    (one_def (define no_names (row rows.ResultType (present (number 0x7d) ▸ present (number 0x7d) ▸ no_leaf)))
    (no_def)))))
    (0x07 ∷ 0x11 ∷ 0x04 ∷ 0x6a ∷ 0x00 ∷ 0x00 ∷ 0x6a ∷ 0x01 ∷ 0x7d ∷ 0x00 ∷ 0x6a ∷ 0x00 ∷ 0x01 ∷ 0x7d ∷ 0x6a ∷ 0x01 ∷ 0x7d ∷ 0x01 ∷ 0x7d ∷ [])
unfolding leb
results = refl

-- (stream u8), (stream), (future u8)
streams : IsSpelled
    (one_def (define no_names (row rows.StreamType (present (number 0x7d) ▸ no_leaf)))
    (one_def (define no_names (row rows.StreamType (absent ▸ no_leaf)))
    (one_def (define no_names (row rows.FutureType (present (number 0x7d) ▸ no_leaf)))
    (no_def))))
    (0x07 ∷ 0x09 ∷ 0x03 ∷ 0x66 ∷ 0x01 ∷ 0x7d ∷ 0x66 ∷ 0x00 ∷ 0x65 ∷ 0x01 ∷ 0x7d ∷ [])
unfolding leb
streams = refl

-- flags, enum, tuple, option, own, borrow, a list of fixed length
small_types : IsSpelled
    (one_def (define no_names (row rows.FlagsType (nodes (one_node (row rows.LoneName (text (0x61 ∷ []) ▸ no_leaf)) (no_node)) ▸ no_leaf)))
    (one_def (define no_names (row rows.EnumType (nodes (one_node (row rows.LoneName (text (0x61 ∷ []) ▸ no_leaf)) (no_node)) ▸ no_leaf)))
    (one_def (define no_names (row rows.TupleType (nodes (one_node (row rows.LoneType (number 0x7d ▸ no_leaf)) (one_node (row rows.LoneType (ref space.Ty (index 0) ▸ no_leaf)) (no_node))) ▸ no_leaf)))
    (one_def (define no_names (row rows.OptionType (number 0x7d ▸ no_leaf)))
    (one_def (define no_names (row rows.OwnType (ref space.Ty (index 0) ▸ no_leaf)))
    (one_def (define no_names (row rows.BorrowType (ref space.Ty (index 0) ▸ no_leaf)))
    (one_def (define no_names (row rows.FixedLengthListType (number 0x7d ▸ number 3 ▸ no_leaf)))
    (no_def))))))))
    (0x07 ∷ 0x16 ∷ 0x07 ∷ 0x6e ∷ 0x01 ∷ 0x01 ∷ 0x61 ∷ 0x6d ∷ 0x01 ∷ 0x01 ∷ 0x61 ∷ 0x6f ∷ 0x02 ∷ 0x7d ∷ 0x00 ∷ 0x6b ∷ 0x7d ∷ 0x69 ∷ 0x00 ∷ 0x68 ∷ 0x00 ∷ 0x67 ∷ 0x7d ∷ 0x03 ∷ [])
unfolding leb
small_types = refl

-- a function type, and an async one
functions : IsSpelled
    (one_def (define no_names (row rows.FunctionType (number 0 ▸ nodes (one_node (row rows.NamedType (text (0x61 ∷ []) ▸ number 0x7d ▸ no_leaf)) (no_node)) ▸ present (number 0x73) ▸ no_leaf)))
    (one_def (define no_names (row rows.FunctionType (number 1 ▸ nodes (no_node) ▸ absent ▸ no_leaf)))
    (no_def)))
    (0x07 ∷ 0x0c ∷ 0x02 ∷ 0x40 ∷ 0x01 ∷ 0x01 ∷ 0x61 ∷ 0x7d ∷ 0x00 ∷ 0x73 ∷ 0x43 ∷ 0x00 ∷ 0x01 ∷ 0x00 ∷ [])
unfolding leb
functions = refl

-- a resource without and with a destructor
resources : IsSpelled
    (one_def (define no_names (row rows.ResourceType (core_value core.i32 ▸ absent ▸ no_leaf)))
    (one_def (define no_names (row rows.ResourceType (core_value core.i32 ▸ present (ref space.CoreFunc (index 2)) ▸ no_leaf)))
    (no_def)))
    (0x07 ∷ 0x08 ∷ 0x02 ∷ 0x3f ∷ 0x7f ∷ 0x00 ∷ 0x3f ∷ 0x7f ∷ 0x01 ∷ 0x02 ∷ [])
unfolding leb
resources = refl

-- (component (type u8) (type (list 0)))
component_type_row : IsSpelled
    (one_def (define no_names (row rows.ComponentType (scope (scope_of kinds.ComponentType None None (one_def (define no_names (row rows.Primitive (number 0x7d ▸ no_leaf))) (one_def (define no_names (row rows.ListType (ref space.Ty (index 0) ▸ no_leaf))) (no_def)))) ▸ no_leaf))) no_def)
    (0x07 ∷ 0x08 ∷ 0x01 ∷ 0x41 ∷ 0x02 ∷ 0x01 ∷ 0x7d ∷ 0x01 ∷ 0x70 ∷ 0x00 ∷ [])
unfolding leb
component_type_row = refl

-- (instance (type (func)) (export "f" (func (type 0))))
instance_type_row : IsSpelled
    (one_def (define no_names (row rows.InstanceType (scope (scope_of kinds.InstanceType None None (one_def (define no_names (row rows.FunctionType (number 0 ▸ nodes (no_node) ▸ absent ▸ no_leaf))) (one_def (define no_names (row rows.ExportType (text (0x66 ∷ []) ▸ node (row rows.FuncDescription (ref space.Ty (index 0) ▸ no_leaf)) ▸ no_leaf))) (no_def)))) ▸ no_leaf))) no_def)
    (0x07 ∷ 0x0e ∷ 0x01 ∷ 0x42 ∷ 0x02 ∷ 0x01 ∷ 0x40 ∷ 0x00 ∷ 0x01 ∷ 0x00 ∷ 0x04 ∷ 0x00 ∷ 0x01 ∷ 0x66 ∷ 0x01 ∷ 0x00 ∷ [])
unfolding leb
instance_type_row = refl

-- a core module
module_bytes_row : IsSpelled
    (one_def (define no_names (row rows.CoreModule (module_bytes (0x00 ∷ 0x61 ∷ 0x73 ∷ 0x6d ∷ 0x01 ∷ 0x00 ∷ 0x00 ∷ 0x00 ∷ []) ▸ no_leaf))) no_def)
    (0x01 ∷ 0x08 ∷ 0x00 ∷ 0x61 ∷ 0x73 ∷ 0x6d ∷ 0x01 ∷ 0x00 ∷ 0x00 ∷ 0x00 ∷ [])
unfolding leb
module_bytes_row = refl

-- a core module instantiated, and a core instance of a function
core_instances : IsSpelled
    (one_def (define no_names (row rows.CoreInstantiate (ref space.CoreModule (index 0) ▸ nodes (one_node (row rows.CoreArgument (text (0x61 ∷ []) ▸ ref space.CoreInstance (index 0) ▸ no_leaf)) (no_node)) ▸ no_leaf)))
    (one_def (define no_names (row rows.CoreBundle (nodes (one_node (row rows.CoreBundleExport (text (0x66 ∷ []) ▸ ref space.CoreFunc (index 0) ▸ no_leaf)) (no_node)) ▸ no_leaf)))
    (no_def)))
    (0x02 ∷ 0x0e ∷ 0x02 ∷ 0x00 ∷ 0x00 ∷ 0x01 ∷ 0x01 ∷ 0x61 ∷ 0x12 ∷ 0x00 ∷ 0x01 ∷ 0x01 ∷ 0x01 ∷ 0x66 ∷ 0x00 ∷ 0x00 ∷ [])
unfolding leb
core_instances = refl

-- a module type with an import and an export
module_type_row : IsSpelled
    (one_def (define no_names (row rows.ModuleType (scope (scope_of kinds.ModuleType None None (one_def (define no_names (row rows.CoreFunctionType (nodes (no_node) ▸ nodes (no_node) ▸ no_leaf))) (one_def (define no_names (row rows.ModuleImport (text (0x61 ∷ []) ▸ text (0x62 ∷ []) ▸ node (row rows.FuncEntity (ref space.CoreType (index 0) ▸ no_leaf)) ▸ no_leaf))) (one_def (define no_names (row rows.ModuleExport (text (0x63 ∷ []) ▸ node (row rows.MemoryEntity (number 1 ▸ absent ▸ no_leaf)) ▸ no_leaf))) (no_def))))) ▸ no_leaf))) no_def)
    (0x03 ∷ 0x14 ∷ 0x01 ∷ 0x50 ∷ 0x03 ∷ 0x01 ∷ 0x60 ∷ 0x00 ∷ 0x00 ∷ 0x00 ∷ 0x01 ∷ 0x61 ∷ 0x01 ∷ 0x62 ∷ 0x00 ∷ 0x00 ∷ 0x03 ∷ 0x01 ∷ 0x63 ∷ 0x02 ∷ 0x00 ∷ 0x01 ∷ [])
unfolding leb
module_type_row = refl

-- a group of core types
rec_row : IsSpelled
    (one_def (define no_names (row rows.CoreRec (nodes (one_node (row rows.CoreFunctionType (nodes (one_node (row rows.CoreValueType (core_value core.i32 ▸ no_leaf)) (no_node)) ▸ nodes (no_node) ▸ no_leaf)) (one_node (row rows.CoreFunctionType (nodes (no_node) ▸ nodes (one_node (row rows.CoreValueType (core_value (core.ref_func true) ▸ no_leaf)) (no_node)) ▸ no_leaf)) (no_node))) ▸ no_leaf))) no_def)
    (0x03 ∷ 0x0b ∷ 0x01 ∷ 0x4e ∷ 0x02 ∷ 0x60 ∷ 0x01 ∷ 0x7f ∷ 0x00 ∷ 0x60 ∷ 0x00 ∷ 0x01 ∷ 0x70 ∷ [])
unfolding leb
rec_row = refl

-- an instance of nothing, and a component instantiated with it
instances : IsSpelled
    (one_def (define no_names (row rows.Bundle (nodes (no_node) ▸ no_leaf)))
    (one_def (define no_names (row rows.Instantiate (ref space.Component (index 0) ▸ nodes (one_node (row rows.Argument (text (0x61 ∷ []) ▸ ref space.Instance (index 0) ▸ no_leaf)) (no_node)) ▸ no_leaf)))
    (no_def)))
    (0x05 ∷ 0x0a ∷ 0x02 ∷ 0x01 ∷ 0x00 ∷ 0x00 ∷ 0x00 ∷ 0x01 ∷ 0x01 ∷ 0x61 ∷ 0x05 ∷ 0x00 ∷ [])
unfolding leb
instances = refl

-- an export, a core export, and a type of the scope outside
aliases : IsSpelled
    (one_def (define no_names (row rows.AliasExport (ref space.Instance (index 0) ▸ text (0x66 ∷ []) ▸ kind space.Func ▸ no_leaf)))
    (one_def (define no_names (row rows.AliasCoreExport (ref space.CoreInstance (index 0) ▸ text (0x66 ∷ []) ▸ kind space.CoreFunc ▸ no_leaf)))
    (one_def (define no_names (row rows.AliasOuter (place (core.counted 0 1) ▸ ref space.Ty (index 300) ▸ kind space.Ty ▸ no_leaf)))
    (no_def))))
    (0x06 ∷ 0x11 ∷ 0x03 ∷ 0x01 ∷ 0x00 ∷ 0x00 ∷ 0x01 ∷ 0x66 ∷ 0x00 ∷ 0x00 ∷ 0x01 ∷ 0x00 ∷ 0x01 ∷ 0x66 ∷ 0x03 ∷ 0x02 ∷ 0x01 ∷ 0xac ∷ 0x02 ∷ [])
unfolding leb
aliases = refl

-- lift, lower with two options, task.return, context.get
lifted : IsSpelled
    (one_def (define no_names (row rows.Lift (ref space.Ty (index 3) ▸ ref space.CoreFunc (index 1) ▸ nodes (one_node (row rows.OptionUtf8 (no_leaf)) (no_node)) ▸ no_leaf)))
    (one_def (define no_names (row rows.Lower (ref space.Func (index 0) ▸ nodes (one_node (row rows.OptionMemory (ref space.CoreMemory (index 0) ▸ no_leaf)) (one_node (row rows.OptionRealloc (ref space.CoreFunc (index 1) ▸ no_leaf)) (no_node))) ▸ no_leaf)))
    (one_def (define no_names (row rows.TaskReturn (present (number 0x7d) ▸ nodes (one_node (row rows.OptionAsync (no_leaf)) (no_node)) ▸ no_leaf)))
    (one_def (define no_names (row rows.ContextGet (core_value core.i32 ▸ number 0 ▸ no_leaf)))
    (no_def)))))
    (0x08 ∷ 0x17 ∷ 0x04 ∷ 0x00 ∷ 0x00 ∷ 0x01 ∷ 0x01 ∷ 0x00 ∷ 0x03 ∷ 0x01 ∷ 0x00 ∷ 0x00 ∷ 0x02 ∷ 0x03 ∷ 0x00 ∷ 0x04 ∷ 0x01 ∷ 0x09 ∷ 0x00 ∷ 0x7d ∷ 0x01 ∷ 0x06 ∷ 0x0a ∷ 0x7f ∷ 0x00 ∷ [])
unfolding leb
lifted = refl

-- a start function with two arguments and a result
start_row : IsSpelled
    (one_def (define no_names (row rows.Start (ref space.Func (index 0) ▸ nodes (one_node (row rows.StartArgument (ref space.Value (index 1) ▸ no_leaf)) (one_node (row rows.StartArgument (ref space.Value (index 2) ▸ no_leaf)) (no_node))) ▸ result_count 1 ▸ no_leaf))) no_def)
    (0x09 ∷ 0x05 ∷ 0x00 ∷ 0x02 ∷ 0x01 ∷ 0x02 ∷ 0x01 ∷ [])
unfolding leb
start_row = refl

-- a function, a resource and a core module imported
imports : IsSpelled
    (one_def (define no_names (row rows.Import (text (0x69 ∷ []) ▸ node (row rows.FuncDescription (ref space.Ty (index 0) ▸ no_leaf)) ▸ no_leaf)))
    (one_def (define no_names (row rows.Import (text (0x72 ∷ []) ▸ node (row rows.SubResource (no_leaf)) ▸ no_leaf)))
    (one_def (define no_names (row rows.Import (text (0x6d ∷ []) ▸ node (row rows.ModuleDescription (ref space.CoreType (index 0) ▸ no_leaf)) ▸ no_leaf)))
    (no_def))))
    (0x0a ∷ 0x11 ∷ 0x03 ∷ 0x00 ∷ 0x01 ∷ 0x69 ∷ 0x01 ∷ 0x00 ∷ 0x00 ∷ 0x01 ∷ 0x72 ∷ 0x03 ∷ 0x01 ∷ 0x00 ∷ 0x01 ∷ 0x6d ∷ 0x00 ∷ 0x11 ∷ 0x00 ∷ [])
unfolding leb
imports = refl

-- an export without a description, and one with
exports : IsSpelled
    (one_def (define no_names (row rows.Export (text (0x61 ∷ []) ▸ absent ▸ ref space.Func (index 0) ▸ no_leaf)))
    (one_def (define no_names (row rows.Export (text (0x72 ∷ 0x75 ∷ 0x6e ∷ []) ▸ present (node (row rows.FuncDescription (ref space.Ty (index 0) ▸ no_leaf))) ▸ ref space.Func (index 1) ▸ no_leaf)))
    (no_def)))
    (0x0b ∷ 0x11 ∷ 0x02 ∷ 0x00 ∷ 0x01 ∷ 0x61 ∷ 0x01 ∷ 0x00 ∷ 0x00 ∷ 0x00 ∷ 0x03 ∷ 0x72 ∷ 0x75 ∷ 0x6e ∷ 0x01 ∷ 0x01 ∷ 0x01 ∷ 0x01 ∷ 0x00 ∷ [])
unfolding leb
exports = refl

-- a custom section
customs : IsSpelled
    (one_def (define no_names (row rows.Custom (text (0x78 ∷ []) ▸ text (0x2a ∷ []) ▸ no_leaf))) no_def)
    (0x00 ∷ 0x03 ∷ 0x01 ∷ 0x78 ∷ 0x2a ∷ [])
unfolding leb
customs = refl

-- neighbours of one kind share a section, and others close it
neighbours : IsSpelled
    (one_def (define no_names (row rows.Primitive (number 0x7d ▸ no_leaf)))
    (one_def (define no_names (row rows.Primitive (number 0x7d ▸ no_leaf)))
    (one_def (define no_names (row rows.Custom (text (0x78 ∷ []) ▸ text [] ▸ no_leaf)))
    (one_def (define no_names (row rows.Primitive (number 0x7d ▸ no_leaf)))
    (no_def)))))
    (0x07 ∷ 0x03 ∷ 0x02 ∷ 0x7d ∷ 0x7d ∷ 0x00 ∷ 0x02 ∷ 0x01 ∷ 0x78 ∷ 0x07 ∷ 0x02 ∷ 0x01 ∷ 0x7d ∷ [])
unfolding leb
neighbours = refl

-- a component in a component, with a name section
nested : IsSpelled
    (one_def (define no_names (row rows.Component (scope (scope_of kinds.Component None None (one_def (define no_names (custom_row name_of_section (name_payload (record { component = Some (0x61 ∷ []); maps = record { space = space.Ty; names = record { index = 2; name = 0x74 ∷ [] } ∷ [] } ∷ [] })))) (no_def))) ▸ no_leaf))) no_def)
    (0x04 ∷ 0x24 ∷ 0x00 ∷ 0x61 ∷ 0x73 ∷ 0x6d ∷ 0x0d ∷ 0x00 ∷ 0x01 ∷ 0x00 ∷ 0x00 ∷ 0x1a ∷ 0x0e ∷ 0x63 ∷ 0x6f ∷ 0x6d ∷ 0x70 ∷ 0x6f ∷ 0x6e ∷ 0x65 ∷ 0x6e ∷ 0x74 ∷ 0x2d ∷ 0x6e ∷ 0x61 ∷ 0x6d ∷ 0x65 ∷ 0x00 ∷ 0x02 ∷ 0x01 ∷ 0x61 ∷ 0x01 ∷ 0x05 ∷ 0x03 ∷ 0x01 ∷ 0x02 ∷ 0x01 ∷ 0x74 ∷ [])
unfolding leb
nested = refl

-- signed numbers: 0, 63, 64, 300, -1, -64, -65, -300
signed : (signed_leb (pos 0) ≡ 0x00 ∷ []) × (signed_leb (pos 63) ≡ 0x3f ∷ []) × (signed_leb (pos 64) ≡ 0xc0 ∷ 0x00 ∷ []) × (signed_leb (pos 300) ≡ 0xac ∷ 0x02 ∷ [])
    × (signed_leb (negsuc 0) ≡ 0x7f ∷ []) × (signed_leb (negsuc 63) ≡ 0x40 ∷ []) × (signed_leb (negsuc 64) ≡ 0xbf ∷ 0x7f ∷ []) × (signed_leb (negsuc 299) ≡ 0xd4 ∷ 0x7d ∷ [])
unfolding leb
signed = (refl, refl, refl, refl, refl, refl, refl, refl)

-- unsigned numbers: 127, 128, 300
unsigned : (uleb 127 ≡ 0x7f ∷ []) × (uleb 128 ≡ 0x80 ∷ 0x01 ∷ []) × (uleb 300 ≡ 0xac ∷ 0x02 ∷ [])
unfolding leb
unsigned = (refl, refl, refl)
