-- The label that a scope has of its definition.
use Rattle.std.specs.Prelude.{Option, None}
use Rattle.comp_model.specs.Core.{Text}
use Rattle.comp_model.specs.declared.row.ScopeKind.{ScopeKind}
use Rattle.comp_model.specs.declared.row.ScopeKind.TheVariants as kinds

abbrev pub scope_label : ScopeKind → Option Text → Option Text
scope_label kinds.Component label = label
scope_label kinds.ComponentType label = None
scope_label kinds.InstanceType label = None
scope_label kinds.ModuleType label = None
