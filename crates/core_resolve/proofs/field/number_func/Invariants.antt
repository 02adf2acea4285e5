use Rattle.core_resolve.proofs.field.number_func.Given as goal

abbrev pub ghost-count_nameless : goal.ghost-count_nameless
ghost-count_nameless g a = g.source

abbrev pub ghost-number_use : goal.ghost-number_use
ghost-number_use g a = g.source
