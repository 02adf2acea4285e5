-- The index spaces, and those of the kinds of aliases (Component Model, Explainer.md, Index Spaces and Alias Definitions).
use Rattle.std.specs.Prelude.{List, [], ◌∷◌}
use Rattle.comp_model.specs.declared.Space.{Space}
use Rattle.comp_model.specs.declared.Space.TheVariants as space
use Rattle.core_syntax.specs.declared.items.ExportKind.{ExportKind}
use Rattle.core_syntax.specs.declared.items.ExportKind.TheVariants as core_kinds
use Rattle.comp_items.specs.declared.kinds.ComponentExportAliasKind.{ComponentExportAliasKind}
use Rattle.comp_items.specs.declared.kinds.ComponentExportAliasKind.TheVariants as export_kinds
use Rattle.comp_items.specs.declared.kinds.ComponentOuterAliasKind.{ComponentOuterAliasKind}
use Rattle.comp_items.specs.declared.kinds.ComponentOuterAliasKind.TheVariants as outer_kinds
use Rattle.comp_items.specs.declared.spaces.Ns.{Ns}
use Rattle.comp_items.specs.declared.spaces.Ns.TheVariants as ns

abbrev pub ns_space : Ns → Space
ns_space ns.CoreFunc = space.CoreFunc
ns_space ns.CoreTable = space.CoreTable
ns_space ns.CoreMemory = space.CoreMemory
ns_space ns.CoreGlobal = space.CoreGlobal
ns_space ns.CoreTag = space.CoreTag
ns_space ns.CoreType = space.CoreType
ns_space ns.CoreModule = space.CoreModule
ns_space ns.CoreInstance = space.CoreInstance
ns_space ns.Func = space.Func
ns_space ns.Value = space.Value
ns_space ns.Ty = space.Ty
ns_space ns.Component = space.Component
ns_space ns.Instance = space.Instance

-- the kinds of items that instances export, and those that core instances export
abbrev pub export_spaces : List Space
export_spaces = space.CoreModule ∷ space.Func ∷ space.Value ∷ space.Ty ∷ space.Component ∷ space.Instance ∷ []

abbrev pub core_export_spaces : List Space
core_export_spaces = space.CoreFunc ∷ space.CoreTable ∷ space.CoreMemory ∷ space.CoreGlobal ∷ space.CoreTag ∷ []

abbrev pub alias_space : ComponentExportAliasKind → Space
alias_space export_kinds.CoreModule = space.CoreModule
alias_space export_kinds.Func = space.Func
alias_space export_kinds.Value = space.Value
alias_space export_kinds.Ty = space.Ty
alias_space export_kinds.Component = space.Component
alias_space export_kinds.Instance = space.Instance

abbrev pub core_alias_space : ExportKind → Space
core_alias_space core_kinds.Func = space.CoreFunc
core_alias_space core_kinds.Table = space.CoreTable
core_alias_space core_kinds.Memory = space.CoreMemory
core_alias_space core_kinds.Global = space.CoreGlobal
core_alias_space core_kinds.Tag = space.CoreTag

abbrev pub outer_space : ComponentOuterAliasKind → Space
outer_space outer_kinds.CoreModule = space.CoreModule
outer_space outer_kinds.CoreType = space.CoreType
outer_space outer_kinds.Ty = space.Ty
outer_space outer_kinds.Component = space.Component
