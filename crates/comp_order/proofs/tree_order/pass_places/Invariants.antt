use Rattle.std.proofs.Common.{◌≡◌, ◌≤◌, List, drop, map, length}
use Rattle.comp_model.specs.Model.{Defs, Leaves}
use Rattle.comp_model.specs.declared.row.Row.{Row}
use Rattle.comp_list.specs.Places.{each_place, joined}
use Rattle.comp_order.specs.Counts.{HasCounts}
use Rattle.comp_order.specs.Before.{AllCounted, HasOwn}
use Rattle.comp_order.specs.Order.{verdict_of}
use Rattle.comp_order.specs.Pass.{pass}
use Rattle.comp_order.proofs.tree_order.pass_places.Given as goal

abbrev pub invariant-loop-place : goal.invariant-loop-place
invariant-loop-place l = (l.place ≤ length (each_place l.places)) × ((before : Defs) (befores : List Defs) (t : Row) (ls : Leaves) →
    HasCounts l.judge.before.now before → HasOwn l.judge.own.now t ls → AllCounted l.judge.outer befores →
    pass l.next (map (verdict_of befores before t ls l.judge.up) (joined (drop l.place (each_place l.places))))
    ≡ pass l.line (map (verdict_of befores before t ls l.judge.up) (joined (each_place l.places))))
