use Rattle.std.proofs.Common.{map, subst}
use Rattle.core_model.specs.NameSection.{names_from}
use Rattle.core_syntax.specs.Fields.{local_of}
use Rattle.core_write.specs.NamesWritten.{namings_of}
use Rattle.core_fits.specs.Sizes.{IsSize}
use Rattle.core_fits.specs.Tests.{fits_names}
use Rattle.core_fits.proofs.Sizes.{size_both}
use Rattle.core_fits.proofs.names.names_within_size.Goals as goal

pub returns : goal.returns
returns c =
    size_both c.written_names_size.result c.local_names_size.result c.and.result _ _ _ _ c.written_names_size.ensures
    (subst (λ ls. IsSize c.local_names_size.result (names_from c.args.first (namings_of (map local_of ls))) (fits_names c.args.first (namings_of (map local_of ls)))) c.as_slice.ensures.value c.local_names_size.ensures)
    c.and.ensures.count c.and.ensures.bytes c.and.ensures.fits
