use Rattle.comp_walks.proofs.Numbering.{HasNumbered}
use Rattle.comp_walks.proofs.walk.VecRenumber.renumber.Given as goal

abbrev pub invariant-loop-i : goal.invariant-loop-i
invariant-loop-i g l = HasNumbered g.T.Node.tag g.T.Node.leaves l.initial.self.items l.initial.numbers l.i l.self.items l.numbers
