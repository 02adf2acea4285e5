use Rattle.std.proofs.Common.{◌≡◌, List, drop, map}
use Rattle.comp_model.specs.Model.{Defs, Leaves}
use Rattle.comp_model.specs.declared.row.Row.{Row}
use Rattle.comp_wire.specs.Values.{rows_of_list, function_row}
use Rattle.comp_list.specs.References.{node_references}
use Rattle.comp_order.specs.Counts.{HasCounts}
use Rattle.comp_order.specs.Before.{AllCounted, HasOwn}
use Rattle.comp_order.specs.Order.{verdict_of}
use Rattle.comp_order.specs.Pass.{pass}
use Rattle.comp_order.proofs.tree_order.pass_functions.Given as goal

abbrev pub invariant-loop-function : goal.invariant-loop-function
invariant-loop-function l = (before : Defs) (befores : List Defs) (t : Row) (ls : Leaves) →
    HasCounts l.judge.before.now before → HasOwn l.judge.own.now t ls → AllCounted l.judge.outer befores →
    pass l.next (map (verdict_of befores before t ls l.judge.up) (node_references (rows_of_list function_row (drop l.function-index l.functions))))
    ≡ pass l.line (map (verdict_of befores before t ls l.judge.up) (node_references (rows_of_list function_row l.functions)))
