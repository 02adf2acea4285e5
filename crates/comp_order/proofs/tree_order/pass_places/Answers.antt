use Rattle.std.proofs.Common.{sym, ap, ◌∙◌, map, arith}
use Rattle.std.proofs.lemmas.List.{drop_all}
use Rattle.comp_list.specs.Places.{each_place, joined}
use Rattle.comp_list.specs.References.{maybe_reference}
use Rattle.comp_order.specs.Order.{verdict_of}
use Rattle.comp_order.specs.Pass.{pass}
use Rattle.comp_order.proofs.PlacesPassed.{place_passed, place_stopped}
use Rattle.comp_order.proofs.tree_order.pass_places.Goals as goal

pub loop-place-preserved : goal.loop-place-preserved
loop-place-preserved c = (
  omega (arith, c.loop-place-test.true, c.count-place-end.ensures),
  λ before befores tag ls h o a.
      place_passed (verdict_of befores before tag ls c.args.judge.now.up) (each_place c.args.places.now) c.loop-place.place (omega (arith, c.loop-place-test.true, c.count-place-end.ensures)) c.loop-place.next c.in-Ok.line (maybe_reference c.at.result) c.at.ensures (c.in-Ok.ensures before befores tag ls h o a)
      ∙ c.loop-place.invariant.1 before befores tag ls h o a,
)

pub returns-in-Err : goal.returns-in-Err
returns-in-Err c = λ before befores tag ls h o a.
    place_stopped (verdict_of befores before tag ls c.args.judge.now.up) (each_place c.args.places.now) c.loop-place.place (omega (arith, c.loop-place-test.true, c.count-place-end.ensures)) c.loop-place.next c.in-Err.order (maybe_reference c.at.result) c.at.ensures (c.in-Err.ensures before befores tag ls h o a)
    ∙ c.loop-place.invariant.1 before befores tag ls h o a

pub returns : goal.returns
returns c = λ before befores tag ls h o a.
    sym (ap (λ q. pass c.loop-place.next (map (verdict_of befores before tag ls c.args.judge.now.up) (joined q))) (drop_all c.loop-place.place (each_place c.args.places.now) (omega (arith, c.loop-place-test.false, c.count-place-end.ensures))))
    ∙ c.loop-place.invariant.1 before befores tag ls h o a
