use Rattle.std.proofs.Common.{List, ◌++◌, ◌&&◌, map, subst}
use Rattle.comp_model.specs.CoreModules.{Naming}
use Rattle.core_model.specs.NameSection.{names_from, locals_at}
use Rattle.core_syntax.specs.Fields.{local_of, use_of}
use Rattle.core_write.specs.NamesWritten.{namings_of, written_namings}
use Rattle.core_fits.specs.Sizes.{IsSize}
use Rattle.core_fits.specs.Tests.{fits_names, fits_locals_at}
use Rattle.core_fits.proofs.NamesSized.{few_names}
use Rattle.core_fits.proofs.names.function_names_size.Goals as goal

pub returns : goal.returns
returns c =
    let ps : List Naming = written_namings (use_of c.args.func.now.ty).signature in
    let ls : List Naming = namings_of (map local_of c.args.func.now.locals.items) in
    subst (λ k. IsSize c.named_within_size.result (locals_at c.args.place (names_from 0 ps ++ names_from k ls)) ((fits_names 0 ps && fits_names k ls) && fits_locals_at c.args.place (names_from 0 ps ++ names_from k ls)))
    c.first_local-first.ensures (c.named_within_size.ensures _ _ c.names_within_size.ensures (few_names 0 c.first_local-first.result ps ls))
