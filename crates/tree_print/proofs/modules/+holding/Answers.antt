use Rattle.std.proofs.Common.{sym, ap, ◌∙◌}
use Rattle.wire_tree.proofs.Leaves.{scope_fields}
use Rattle.print_table.specs.HasText.{holds_module}
use Rattle.tree_print.proofs.ModulesHeld.{goes_on, stops}
use Rattle.tree_print.proofs.modules.+holding.Goals as goal

pub definitions_hold-returns-then-definition_holds : goal.definitions_hold-returns-then-definition_holds
definitions_hold-returns-then-definition_holds t c = stops c.args.defs.now c.loop-node.node-index _ _ c.loop-node-test.true c.if-definition_holds.ensures c.loop-node.invariant

pub definitions_hold-loop-node-preserved : goal.definitions_hold-loop-node-preserved
definitions_hold-loop-node-preserved t c = goes_on c.args.defs.now c.loop-node.node-index _ _ c.loop-node-test.true c.if-definition_holds.ensures c.loop-node.invariant

pub holds_module-returns : goal.holds_module-returns
holds_module-returns t c = c.definitions_hold.ensures ∙ sym (ap holds_module (scope_fields c.args.scope.now))
