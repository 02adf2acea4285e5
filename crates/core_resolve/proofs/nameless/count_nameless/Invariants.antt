use Rattle.core_resolve.proofs.nameless.count_nameless.Given as goal

abbrev pub ghost-type_index : goal.ghost-type_index
ghost-type_index g a = g.source
