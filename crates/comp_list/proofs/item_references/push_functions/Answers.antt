use Rattle.comp_list.proofs.Joined.{function_turn}
use Rattle.comp_list.proofs.item_references.push_functions.Goals as goal

pub loop-function-preserved : goal.loop-function-preserved
loop-function-preserved c =
    function_turn c.args.functions.now c.loop-function.function-index c.function-item.result c.as_slice.result c.as_slice-in-loop-function.result
    c.loop-function.found.items c.push_places.new.found.items c.push_places-in-loop-function.new.found.items _ c.loop-function-test.true c.function-item.is
    c.as_slice.ensures.same_items c.as_slice-in-loop-function.ensures.same_items c.in_ok-push_places.ensures c.in_ok-push_places-2.ensures c.loop-function.invariant
