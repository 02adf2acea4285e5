use Rattle.core_resolve.proofs.type_use.number_use.Given as goal

abbrev pub ghost-type_index : goal.ghost-type_index
ghost-type_index g a = g.source
