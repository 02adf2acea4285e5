-- What the options of canonical functions stand for (Component Model, Explainer.md, Canonical Definitions).
use Rattle.std.specs.Prelude.{List}
use Rattle.comp_model.specs.declared.Space.TheVariants as space
use Rattle.comp_model.specs.declared.row.Row.{Row}
use Rattle.comp_model.specs.declared.row.Row.TheVariants as rows
use Rattle.comp_model.specs.Model.{Leaf, Leaves, no_leaf, ◌▸◌, Node, row, nodes}
use Rattle.typed_nodes.specs.Lists.{nodes_from}
use Rattle.comp_items.specs.Items.{core_item_leaf}
use Rattle.comp_items.specs.declared.options.CanonOpt.{CanonOpt}
use Rattle.comp_items.specs.declared.options.CanonOpt.TheVariants as o

abbrev pub option_row : CanonOpt → Row
option_row o.StringUtf8 = rows.OptionUtf8
option_row o.StringUtf16 = rows.OptionUtf16
option_row o.StringLatin1Utf16 = rows.OptionLatin1Utf16
option_row o.Async = rows.OptionAsync
option_row o.Gc = rows.OptionGc
option_row (o.Memory x) = rows.OptionMemory
option_row (o.Realloc x) = rows.OptionRealloc
option_row (o.PostReturn x) = rows.OptionPostReturn
option_row (o.Callback x) = rows.OptionCallback
option_row (o.CoreType x) = rows.OptionCoreType

abbrev pub option_leaves : CanonOpt → Leaves
option_leaves (o.Memory x) = core_item_leaf space.CoreMemory x.idx x.export_name ▸ no_leaf
option_leaves (o.Realloc x) = core_item_leaf space.CoreFunc x.idx x.export_name ▸ no_leaf
option_leaves (o.PostReturn x) = core_item_leaf space.CoreFunc x.idx x.export_name ▸ no_leaf
option_leaves (o.Callback x) = core_item_leaf space.CoreFunc x.idx x.export_name ▸ no_leaf
option_leaves (o.CoreType x) = core_item_leaf space.CoreType x.idx x.export_name ▸ no_leaf
option_leaves _ = no_leaf

-- an option is a node, and options are a list of nodes
abbrev pub option_node : CanonOpt → Node
option_node x = row (option_row x) (option_leaves x)

abbrev pub options_leaf : List CanonOpt → Leaf
options_leaf xs = nodes (nodes_from option_node xs)
