use Rattle.tree_names.proofs.Names.{outer_served, outer_own}
use Rattle.tree_names.proofs.name.resolve_outer.Goals as goal

pub returns-in-Some-clause-done : goal.returns-in-Some-clause-done
returns-in-Some-clause-done c = outer_served c.args.space c.args.found.depth c.args.index c.args.reading.now c.next_alias.new.self c.next_alias.result c.next_alias.ensures.left c.next_alias.ensures.next _ _ c.in-Some.is c.requires.sized c.refer.ensures.place

pub returns-in-Ok-clause-done : goal.returns-in-Ok-clause-done
returns-in-Ok-clause-done c = outer_own c.args.space c.args.found.depth c.args.index c.args.reading.now c.next_alias.new.self c.next_alias.result c.next_alias.ensures.left c.next_alias.ensures.next _ _ c.in-None.is c.in-Ok.ensures.done
