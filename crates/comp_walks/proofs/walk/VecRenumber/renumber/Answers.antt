use Rattle.std.proofs.Common.{arith, rules, ap}
use Rattle.comp_model.specs.Model as m
use Rattle.comp_walks.proofs.Numbering.{numbered_next, numbered_all}
use Rattle.comp_walks.proofs.walk.VecRenumber.renumber.Goals as goal

pub loop-i-preserved : goal.loop-i-preserved
loop-i-preserved g c = numbered_next g.T.Node.tag g.T.Node.leaves _ _ _ _ _ c.index_mut.result.now _ _ c.loop-i.invariant (omega (arith, c.loop-i.invariant.same)) (search rules) (search rules) (search rules)

pub returns-clause-leaf : goal.returns-clause-leaf
returns-clause-leaf g c = ap m.nodes (numbered_all g.T.Node.tag g.T.Node.leaves _ _ _ _ _ c.loop-i.invariant (omega arith))
