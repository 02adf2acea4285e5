use Rattle.std.proofs.Common.{◌≡◌, drop}
use Rattle.comp_model.specs.Events.{told_defs}
use Rattle.comp_walks.specs.Lists.{definitions}
use Rattle.comp_walks.proofs.walk.walk_definitions.Given as goal

abbrev pub invariant-loop-item : goal.invariant-loop-item
invariant-loop-item g l =
    told_defs g.V.Visitor.step g.V.Visitor.enters (definitions g.T.Definition.def (drop l.item-index l.items)) l.visitor ≡ told_defs g.V.Visitor.step g.V.Visitor.enters (definitions g.T.Definition.def l.items) l.initial.visitor
