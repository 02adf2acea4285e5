use Rattle.std.proofs.Common.{ap, ◌∙◌, map, ◌++◌}
use Rattle.comp_wire.specs.Values.{rows_of_list, function_row}
use Rattle.comp_list.specs.References.{node_references}
use Rattle.comp_list.specs.Places.{references_at}
use Rattle.comp_order.specs.Order.{verdict_of}
use Rattle.comp_order.specs.Pass.{pass}
use Rattle.comp_order.proofs.Passing.{passed_more, stopped_more}
use Rattle.comp_order.proofs.tree_order.pass_item_places.Goals as goal

pub returns-in-Err : goal.returns-in-Err
returns-in-Err c = λ before befores tag ls h o a.
    let v = verdict_of befores before tag ls c.args.judge.now.up in
    let ps = c.places_of-places.result in
    stopped_more v c.args.line c.in-Err.order (references_at ps.first) (references_at ps.second ++ (references_at ps.third ++ node_references (rows_of_list function_row ps.functions.now))) (c.in-Err.ensures before befores tag ls h o a)
    ∙ ap (λ q. pass c.args.line (map v q)) c.places_of-places.ensures

pub returns-in-Err-pass_places : goal.returns-in-Err-pass_places
returns-in-Err-pass_places c = λ before befores tag ls h o a.
    let v = verdict_of befores before tag ls c.args.judge.now.up in
    let ps = c.places_of-places.result in
    let last = references_at ps.third ++ node_references (rows_of_list function_row ps.functions.now) in
    stopped_more v c.in-Ok.line c.in-Err-pass_places.order (references_at ps.second) last (c.in-Err-pass_places.ensures before befores tag ls h o a)
    ∙ passed_more v c.args.line c.in-Ok.line (references_at ps.first) (references_at ps.second ++ last) (c.in-Ok.ensures before befores tag ls h o a)
    ∙ ap (λ q. pass c.args.line (map v q)) c.places_of-places.ensures

pub returns-in-Err-pass_places-2 : goal.returns-in-Err-pass_places-2
returns-in-Err-pass_places-2 c = λ before befores tag ls h o a.
    let v = verdict_of befores before tag ls c.args.judge.now.up in
    let ps = c.places_of-places.result in
    let types = node_references (rows_of_list function_row ps.functions.now) in
    stopped_more v c.in-Ok-pass_places.line c.in-Err-pass_places-2.order (references_at ps.third) types (c.in-Err-pass_places-2.ensures before befores tag ls h o a)
    ∙ passed_more v c.in-Ok.line c.in-Ok-pass_places.line (references_at ps.second) (references_at ps.third ++ types) (c.in-Ok-pass_places.ensures before befores tag ls h o a)
    ∙ passed_more v c.args.line c.in-Ok.line (references_at ps.first) (references_at ps.second ++ (references_at ps.third ++ types)) (c.in-Ok.ensures before befores tag ls h o a)
    ∙ ap (λ q. pass c.args.line (map v q)) c.places_of-places.ensures

pub returns : goal.returns
returns c = λ before befores tag ls h o a.
    let v = verdict_of befores before tag ls c.args.judge.now.up in
    let ps = c.places_of-places.result in
    let types = node_references (rows_of_list function_row ps.functions.now) in
    c.pass_functions.ensures before befores tag ls h o a
    ∙ passed_more v c.in-Ok-pass_places.line c.in-Ok-pass_places-2.line (references_at ps.third) types (c.in-Ok-pass_places-2.ensures before befores tag ls h o a)
    ∙ passed_more v c.in-Ok.line c.in-Ok-pass_places.line (references_at ps.second) (references_at ps.third ++ types) (c.in-Ok-pass_places.ensures before befores tag ls h o a)
    ∙ passed_more v c.args.line c.in-Ok.line (references_at ps.first) (references_at ps.second ++ (references_at ps.third ++ types)) (c.in-Ok.ensures before befores tag ls h o a)
    ∙ ap (λ q. pass c.args.line (map v q)) c.places_of-places.ensures
