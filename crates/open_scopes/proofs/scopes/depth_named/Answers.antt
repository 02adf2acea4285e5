use Rattle.comp_walks.specs.Lent.{id_of}
use Rattle.open_scopes.proofs.Stacks.{named-passed, named-here, named-nowhere}
use Rattle.open_scopes.proofs.scopes.depth_named.Goals as goal

pub returns-then-bears : goal.returns-then-bears
returns-then-bears c = record { depth = named-here c.args.scopes.now (id_of c.args.id) c.loop-depth.depth c.scope_at.result.now c.bears.result c.scope_at.ensures c.bears.ensures c.if-bears.true c.loop-depth.invariant }

pub loop-depth-preserved : goal.loop-depth-preserved
loop-depth-preserved c = named-passed c.args.scopes.now (id_of c.args.id) c.loop-depth.depth c.scope_at.result.now c.bears.result c.scope_at.ensures c.bears.ensures c.if-bears.false c.loop-depth.invariant

pub returns : goal.returns
returns c = record { depth = named-nowhere c.args.scopes.now (id_of c.args.id) c.loop-depth.depth c.loop-depth-test.false c.loop-depth.invariant }
