use Rattle.comp_walks.specs.Lent.{id_of}
use Rattle.open_scopes.proofs.Stacks.{Named}
use Rattle.open_scopes.proofs.scopes.depth_named.Given as goal

abbrev pub invariant-loop-depth : goal.invariant-loop-depth
invariant-loop-depth l = Named l.scopes (id_of l.id) l.depth
