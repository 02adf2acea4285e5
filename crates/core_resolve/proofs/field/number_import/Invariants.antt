use Rattle.core_resolve.proofs.field.number_import.Given as goal

abbrev pub ghost-number_kind : goal.ghost-number_kind
ghost-number_kind g a = g.source
