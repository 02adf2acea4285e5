use Rattle.std.proofs.Common.{sym, ap, ◌∙◌, map}
use Rattle.std.proofs.lemmas.List.{drop_all}
use Rattle.comp_wire.specs.Values.{rows_of_list, function_row}
use Rattle.comp_list.specs.References.{node_references}
use Rattle.comp_order.specs.Order.{verdict_of}
use Rattle.comp_order.specs.Pass.{pass}
use Rattle.comp_order.proofs.PlacesPassed.{function_passed, function_stopped}
use Rattle.comp_order.proofs.tree_order.pass_functions.Goals as goal

pub loop-function-preserved : goal.loop-function-preserved
loop-function-preserved c = λ before befores tag ls h o a.
    function_passed (verdict_of befores before tag ls c.args.judge.now.up) c.args.functions.now c.loop-function.function-index c.function-item.result c.loop-function-test.true c.function-item.is c.loop-function.next c.in-Ok.line (c.in-Ok.ensures before befores tag ls h o a)
    ∙ c.loop-function.invariant before befores tag ls h o a

pub returns-in-Err : goal.returns-in-Err
returns-in-Err c = λ before befores tag ls h o a.
    function_stopped (verdict_of befores before tag ls c.args.judge.now.up) c.args.functions.now c.loop-function.function-index c.function-item.result c.loop-function-test.true c.function-item.is c.loop-function.next c.in-Err.order (c.in-Err.ensures before befores tag ls h o a)
    ∙ c.loop-function.invariant before befores tag ls h o a

pub returns : goal.returns
returns c = λ before befores tag ls h o a.
    sym (ap (λ q. pass c.loop-function.next (map (verdict_of befores before tag ls c.args.judge.now.up) (node_references (rows_of_list function_row q)))) (drop_all c.loop-function.function-index c.args.functions.now c.loop-function-test.false))
    ∙ c.loop-function.invariant before befores tag ls h o a
