use Rattle.std.proofs.Common.{rules, ◌≡◌, refl, ◌+◌, ◌++◌, subst, OnOk}
use Rattle.std.proofs.lemmas.List.{get_or_read}
use borrow.Author.Tests.{tests}
use Rattle.item_tree.specs.declared.tree.Item.{the_lemmas}
use Rattle.comp_list.specs.Open.{scopes_of}
use Rattle.comp_list.proofs.Trees.{component_fits, component_type_fits, instance_type_fits, module_type_fits, component_lines, module_type_lines, component_type_lines, instance_type_lines, item_listed}
use Rattle.comp_list.proofs.SpotRoom.{items_turn}
use Rattle.comp_list.proofs.tree_list.+trees.Goals as goal

pub push_core_type-returns-in-Module : goal.push_core_type-returns-in-Module
push_core_type-returns-in-Module t c = λ f.
    subst (λ q. OnOk c.push_tree.result (c.push_tree.new.lines.items ≡ c.args.lines.now.items ++ q)) (module_type_lines c.args.level (scopes_of c.args.around) c.in-Module.tree c.args.ty.now c.in-Module.is) (c.push_tree.ensures f)

pub push_held-returns-in-Component : goal.push_held-returns-in-Component
push_held-returns-in-Component t c = λ f.
    subst (λ q. OnOk c.push_tree.result (c.push_tree.new.lines.items ≡ c.args.lines.now.items ++ q)) (component_lines c.args.level (scopes_of c.args.around) c.in-Component.tree c.args.item.now c.in-Component.is) (c.push_tree.ensures f)

pub push_type-returns-in-Component : goal.push_type-returns-in-Component
push_type-returns-in-Component t c = λ f.
    subst (λ q. OnOk c.push_tree.result (c.push_tree.new.lines.items ≡ c.args.lines.now.items ++ q)) (component_type_lines c.args.level (scopes_of c.args.around) c.in-Component.tree c.args.ty.now c.in-Component.is) (c.push_tree.ensures f)

pub push_type-returns-in-Instance : goal.push_type-returns-in-Instance
push_type-returns-in-Instance t c = λ f.
    subst (λ q. OnOk c.push_tree-in-Instance.result (c.push_tree-in-Instance.new.lines.items ≡ c.args.lines.now.items ++ q)) (instance_type_lines c.args.level (scopes_of c.args.around) c.in-Instance.tree c.args.ty.now c.in-Instance.is) (c.push_tree-in-Instance.ensures f)

pub push_items-loop-item-preserved : goal.push_items-loop-item-preserved
push_items-loop-item-preserved t c =
    let turn = items_turn c.args.items.now c.loop-item.item-index c.item-item.result c.args.level c.loop-item.def c.loop-item-test.true c.item-item.is c.loop-item.invariant.0 in (
      turn.2,
      λ f.
          item_listed c.args.items.now c.loop-item.item-index c.item-item.result c.args.level (c.args.level + 1) (scopes_of c.args.around) c.loop-item.def (c.loop-item.def + 1)
          c.loop-item.lines.items c.push_own.new.lines.items c.push_held.new.lines.items _ c.loop-item-test.true c.item-item.is refl refl (c.in_ok-push_own.ensures f) (c.in_ok-push_held.ensures f) (c.loop-item.invariant.1 f),
    )

pub push_core_type-push_tree-requires : goal.push_core_type-push_tree-requires
push_core_type-push_tree-requires t c = (search (tests, rules, the_lemmas, get_or_read, c.well_formed), (module_type_fits c.args.level c.in-Module.tree c.args.ty.now c.in-Module.is c.requires.room, c.requires.depth))

pub push_held-push_tree-requires : goal.push_held-push_tree-requires
push_held-push_tree-requires t c = (search (tests, rules, the_lemmas, get_or_read, c.well_formed), (component_fits c.args.level c.in-Component.tree c.args.item.now c.in-Component.is c.requires.room, c.requires.depth))

pub push_type-push_tree-requires : goal.push_type-push_tree-requires
push_type-push_tree-requires t c = (search (tests, rules, the_lemmas, get_or_read, c.well_formed), (component_type_fits c.args.level c.in-Component.tree c.args.ty.now c.in-Component.is c.requires.room, c.requires.depth))

pub push_type-push_tree-requires-in-Instance : goal.push_type-push_tree-requires-in-Instance
push_type-push_tree-requires-in-Instance t c = (search (tests, rules, the_lemmas, get_or_read, c.well_formed), (instance_type_fits c.args.level c.in-Instance.tree c.args.ty.now c.in-Instance.is c.requires.room, c.requires.depth))
