use Rattle.std.proofs.Common.{sym, ap, ◌∙◌, map, ◌++◌, [], append-nil}
use Rattle.comp_wire.specs.Values.{rows_of_list, core_value_row}
use Rattle.comp_list.specs.declared.places.Places.TheVariants as p
use Rattle.comp_list.specs.References.{node_references}
use Rattle.comp_list.specs.Places.{references_at}
use Rattle.comp_list.proofs.Joined.{core_values}
use Rattle.comp_order.specs.Order.{verdict_of}
use Rattle.comp_order.specs.Pass.{pass}
use Rattle.comp_order.proofs.Passing.{passed_more, stopped_more}
use Rattle.comp_order.proofs.tree_order.pass_function.Goals as goal

pub returns-in-Err : goal.returns-in-Err
returns-in-Err c = λ before befores tag ls h o a.
    let v = verdict_of befores before tag ls c.args.judge.now.up in
    let results = node_references (rows_of_list core_value_row c.args.function.now.results) ++ [] in
    stopped_more v c.args.line c.in-Err.order (references_at (p.CoreValues c.as_slice.result)) results (c.in-Err.ensures before befores tag ls h o a)
    ∙ ap (λ q. pass c.args.line (map v (q ++ results))) (core_values c.as_slice.result ∙ ap (λ xs. node_references (rows_of_list core_value_row xs)) c.as_slice.ensures.same_items)

pub returns : goal.returns
returns c = λ before befores tag ls h o a.
    let v = verdict_of befores before tag ls c.args.judge.now.up in
    let results = node_references (rows_of_list core_value_row c.args.function.now.results) ++ [] in
    c.pass_places-2.ensures before befores tag ls h o a
    ∙ ap (λ q. pass c.in-Ok.line (map v q)) (core_values c.as_slice-2.result ∙ ap (λ xs. node_references (rows_of_list core_value_row xs)) c.as_slice-2.ensures.same_items ∙ sym (append-nil (node_references (rows_of_list core_value_row c.args.function.now.results))))
    ∙ passed_more v c.args.line c.in-Ok.line (references_at (p.CoreValues c.as_slice.result)) results (c.in-Ok.ensures before befores tag ls h o a)
    ∙ ap (λ q. pass c.args.line (map v (q ++ results))) (core_values c.as_slice.result ∙ ap (λ xs. node_references (rows_of_list core_value_row xs)) c.as_slice.ensures.same_items)
