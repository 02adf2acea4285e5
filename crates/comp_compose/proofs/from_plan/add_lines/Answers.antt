use Rattle.std.proofs.Common.{◌^◌}
use Rattle.comp_compose.proofs.Going.{turn, goes_on, stops_or}
use Rattle.comp_compose.proofs.from_plan.add_lines.Goals as goal

pub add_line-requires-clause-room : goal.add_line-requires-clause-room
add_line-requires-clause-room c =
    let t = turn c.loop-line.composer c.args.plan.now c.loop-line.left c.in-Some.rest c.in-Some.line c.requires.small c.loop-line.invariant c.in-Some.ensures.lines c.in-Some.ensures.size in
    (t.going.before, t.going.spent, t.says, t.going.composing, t.read, t.room)

pub returns-in-Err : goal.returns-in-Err
returns-in-Err c =
    let t = turn c.loop-line.composer c.args.plan.now c.loop-line.left c.in-Some.rest c.in-Some.line c.requires.small c.loop-line.invariant c.in-Some.ensures.lines c.in-Some.ensures.size in
    stops_or c.loop-line.composer c.args.plan.now c.loop-line.left c.in-Some.rest c.in-Some.line t c.in-Err.refusal (c.in-Err.ensures t.going.before t.going.spent t.says t.going.composing t.read t.room)

pub loop-line-preserved : goal.loop-line-preserved
loop-line-preserved c =
    let t = turn c.loop-line.composer c.args.plan.now c.loop-line.left c.in-Some.rest c.in-Some.line c.requires.small c.loop-line.invariant c.in-Some.ensures.lines c.in-Some.ensures.size in
    let a = c.in-Ok.ensures t.going.before t.going.spent t.says t.going.composing t.read t.room in
    goes_on c.loop-line.composer c.args.plan.now c.loop-line.left c.in-Some.rest c.in-Some.line t c.add_line.new.self c.in-Some.ensures.size (c.in-Some.ensures.spans (2 ^ 64) c.loop-line.invariant.spans).1 a.0 a.1
