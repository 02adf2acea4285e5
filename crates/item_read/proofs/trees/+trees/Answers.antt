use Rattle.std.proofs.Common.{rules}
use Rattle.std.proofs.lemmas.List.{get_or_read}
use borrow.Author.Tests.{tests}
use Rattle.wire_tree.specs.declared.tree.Leaf.{the_lemmas}
use Rattle.item_tree.specs.Model.{item_row}
use Rattle.item_read.proofs.ListRows.{turn}
use Rattle.item_read.proofs.Scopes.{one_definition, scope_definitions}
use Rattle.item_read.proofs.trees.+trees.Goals as goal

pub items_of-item_of-requires : goal.items_of-item_of-requires
items_of-item_of-requires t c = (search (tests, rules, the_lemmas, get_or_read, c.well_formed), one_definition _ c.args.nodes.now c.loop-node.node-index c.requires c.loop-node-test.true)

pub items_of-loop-node-preserved : goal.items_of-loop-node-preserved
items_of-loop-node-preserved t c = turn item_row _ _ c.in_ok-item.item c.args.nodes.now c.loop-node.node-index _ c.loop-node-test.true c.in_ok-push.ensures.items c.in_ok-item.ensures c.loop-node.invariant

pub tree_of-items_of-requires : goal.tree_of-items_of-requires
tree_of-items_of-requires t c = (search (tests, rules, the_lemmas, get_or_read, c.well_formed), scope_definitions c.args.scope.now c.requires)
