use Rattle.std.proofs.Common.{◌++◌, map, ap, ◌∙◌}
use Rattle.comp_model.specs.Payloads.{joined}
use Rattle.core_model.specs.NameSection.{names_from}
use Rattle.core_syntax.specs.Fields.{use_of, local_of}
use Rattle.core_write.specs.NamesWritten.{written_namings, namings_of}
use Rattle.core_write.proofs.Steps.{two-lists}
use Rattle.core_write.proofs.names.push_names_within.Goals as goal

pub returns-clause-appended : goal.returns-clause-appended
returns-clause-appended c =
    two-lists (names_from 0 (written_namings (use_of c.args.func.now.ty).signature)) (names_from c.args.first (namings_of (map local_of c.args.func.now.locals.items)))
    c.args.out.now.items c.push_written_names.new.out.items c.push_local_names.new.out.items c.in_ok-params.ensures.appended
    (c.in_ok-locals.ensures.appended ∙ ap (λ s. c.push_written_names.new.out.items ++ joined (names_from c.args.first (namings_of (map local_of s)))) c.as_slice.ensures.value)
