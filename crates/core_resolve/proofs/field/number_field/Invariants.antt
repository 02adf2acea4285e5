use Rattle.core_resolve.proofs.field.number_field.Given as goal

abbrev pub ghost-number_type : goal.ghost-number_type
ghost-number_type g a = g.source

abbrev pub ghost-number_import : goal.ghost-number_import
ghost-number_import g a = g.source

abbrev pub ghost-number_func : goal.ghost-number_func
ghost-number_func g a = g.source

abbrev pub ghost-number_table : goal.ghost-number_table
ghost-number_table g a = g.source

abbrev pub ghost-number_global : goal.ghost-number_global
ghost-number_global g a = g.source

abbrev pub ghost-number_export : goal.ghost-number_export
ghost-number_export g a = g.source
