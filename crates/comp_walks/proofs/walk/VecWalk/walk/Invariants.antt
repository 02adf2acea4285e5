use Rattle.std.proofs.Common.{◌≡◌, drop}
use Rattle.comp_model.specs.Events.{told_nodes}
use Rattle.comp_walks.specs.Lists.{entries}
use Rattle.comp_walks.proofs.walk.VecWalk.walk.Given as goal

abbrev pub invariant-loop-item : goal.invariant-loop-item
invariant-loop-item g l = told_nodes g.V.Visitor.step g.V.Visitor.enters (entries g.T.Node.tag g.T.Node.leaves (drop l.item-index l.item-items)) l.visitor ≡ told_nodes g.V.Visitor.step g.V.Visitor.enters (entries g.T.Node.tag g.T.Node.leaves l.item-items) l.initial.visitor
