use Rattle.core_resolve.proofs.field.number_kind.Given as goal

abbrev pub ghost-number_use : goal.ghost-number_use
ghost-number_use g a = g.source
