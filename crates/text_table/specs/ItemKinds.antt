-- The spaces of kinds of items.
use Rattle.comp_model.specs.declared.Space.{Space}
use Rattle.comp_model.specs.declared.Space.TheVariants as space
use Rattle.text_table.specs.declared.kinds.ItemKind.{ItemKind}
use Rattle.text_table.specs.declared.kinds.ItemKind.TheVariants as kinds
use Rattle.text_table.specs.declared.kinds.CoreItemKind.{CoreItemKind}
use Rattle.text_table.specs.declared.kinds.CoreItemKind.TheVariants as core_kinds

-- the space of a kind of items
abbrev pub item_space : ItemKind → Space
item_space kinds.CoreModule = space.CoreModule
item_space kinds.Func = space.Func
item_space kinds.Value = space.Value
item_space kinds.Ty = space.Ty
item_space kinds.Component = space.Component
item_space kinds.Instance = space.Instance

-- that of a kind of core items
abbrev pub core_item_space : CoreItemKind → Space
core_item_space core_kinds.Func = space.CoreFunc
core_item_space core_kinds.Table = space.CoreTable
core_item_space core_kinds.Memory = space.CoreMemory
core_item_space core_kinds.Ty = space.CoreType
core_item_space core_kinds.Instance = space.CoreInstance
