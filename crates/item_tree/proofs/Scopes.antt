-- A definition that holds a tree, by the list of the tree's definitions.
use Rattle.std.proofs.Common.{◌≡◌, refl, ap, ◌∙◌, List, None}
use Rattle.comp_model.specs.Makers as make
use Rattle.comp_model.specs.Model as m
use Rattle.comp_model.specs.declared.row.ScopeKind.TheVariants as kinds
use Rattle.comp_model.specs.Model.{define, no_names, one_def}
use Rattle.item_tree.specs.declared.tree.Tree as t
use Rattle.item_tree.specs.declared.tree.Tree.{Tree}
use Rattle.item_tree.specs.declared.tree.Item as i
use Rattle.item_tree.specs.declared.tree.Item.{Item}
use Rattle.item_tree.specs.declared.tree.ItemCoreType as core
use Rattle.item_tree.specs.declared.tree.ItemType as ty
use Rattle.item_tree.specs.Model.{item_row, defs_of, defs_listed, scope_of_tree}

as_list : {n : _} (ds : t.Row_of-Item n) → defs_of ds ≡ defs_listed (t.items-the_row-Item n ds)
as_list t.end_of-Item = refl
as_list (t.more_of-Item d ds) = ap (one_def (define no_names (item_row d))) (as_list ds)

hidden : (ds : List Item) → defs_of (i.TheBlock.hidden-the_row-Item-0 ds) ≡ defs_listed ds
hidden ds = as_list (i.TheBlock.hidden-the_row-Item-0 ds) ∙ ap defs_listed (t.items_hidden-the_row-Item-0 ds)

pub component_item : (x : Tree) → item_row (i.Component x) ≡ make.component (scope_of_tree kinds.Component x)
component_item x = ap (λ ds. make.component (m.scope_of kinds.Component None None ds)) (hidden x.defs)

pub component_type_item : (x : Tree) → item_row (i.Ty (ty.Component x)) ≡ make.component_type (scope_of_tree kinds.ComponentType x)
component_type_item x = ap (λ ds. make.component_type (m.scope_of kinds.ComponentType None None ds)) (hidden x.defs)

pub instance_type_item : (x : Tree) → item_row (i.Ty (ty.Instance x)) ≡ make.instance_type (scope_of_tree kinds.InstanceType x)
instance_type_item x = ap (λ ds. make.instance_type (m.scope_of kinds.InstanceType None None ds)) (hidden x.defs)

pub module_type_item : (x : Tree) → item_row (i.CoreType (core.Module x)) ≡ make.module_type (scope_of_tree kinds.ModuleType x)
module_type_item x = ap (λ ds. make.module_type (m.scope_of kinds.ModuleType None None ds)) (hidden x.defs)
