use Rattle.comp_walks.proofs.Present.{told_present}
use Rattle.comp_walks.proofs.walk.OptionWalk.walk.Goals as goal

pub returns-in-Some : goal.returns-in-Some
returns-in-Some g c = told_present g.V.Visitor.step g.V.Visitor.enters g.T.Walk.leaf _ _ _ _ _ (g.T.Walk.is_plain _) c.in-Some.is c.tell.ensures c.walk.ensures
