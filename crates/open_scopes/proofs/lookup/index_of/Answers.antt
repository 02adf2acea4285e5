use Rattle.open_scopes.proofs.Stacks.{index-here}
use Rattle.open_scopes.proofs.lookup.index_of.Goals as goal

pub returns : goal.returns
returns c = record { index = index-here c.args.scopes.now c.scope_at-scope.result.now c.args.found c.index.result.now c.scope_at-scope.ensures c.requires.indexed c.index.ensures }
