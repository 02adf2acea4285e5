-- The declarations of a type, as its scope.
use Rattle.std.specs.Prelude.{List, None}
use Rattle.comp_model.specs.Model.{Scope, scope_of}
use Rattle.comp_model.specs.declared.row.ScopeKind.{ScopeKind}
use Rattle.comp_model.specs.declared.row.ScopeKind.TheVariants as kinds
use Rattle.comp_wire.specs.declared.append_types.Declared.{Declared}
use Rattle.comp_wire.specs.declared.append_types.Declared.TheVariants as declared
use Rattle.comp_wire.specs.declared.types.WireDecl.{WireDecl}
use Rattle.comp_wire.specs.Definitions.{declarations_of_list}

abbrev pub kind_of_type : Declared → ScopeKind
kind_of_type declared.Component = kinds.ComponentType
kind_of_type declared.Instance = kinds.InstanceType
kind_of_type declared.Module = kinds.ModuleType

abbrev pub scope_of_list : Declared → List WireDecl → Scope
scope_of_list kind decls = scope_of (kind_of_type kind) None None (declarations_of_list decls)
