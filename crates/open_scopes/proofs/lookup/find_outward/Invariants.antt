use Rattle.comp_walks.specs.Lent.{id_of}
use Rattle.open_scopes.proofs.Stacks.{Outward}
use Rattle.open_scopes.proofs.lookup.find_outward.Given as goal

abbrev pub invariant-loop-depth : goal.invariant-loop-depth
invariant-loop-depth l = Outward l.scopes l.fn.space (id_of l.id) l.depth
