use Rattle.std.proofs.Common.{◌+◌, ◌≤◌, drop, map}
use Rattle.core_model.specs.NameSection.{names_from}
use Rattle.core_syntax.specs.Fields.{local_of}
use Rattle.core_write.specs.NamesWritten.{namings_of}
use Rattle.core_fits.specs.Tests.{fits_names}
use Rattle.core_fits.proofs.Sizes.{SoFar}
use Rattle.core_fits.proofs.names.local_names_size.Given as goal

-- with what is left it is the whole
abbrev pub invariant-loop-local : goal.invariant-loop-local
invariant-loop-local l = record {
  size : SoFar l.size (names_from (l.first + l.place) (namings_of (map local_of (drop l.local-index l.locals)))) (fits_names (l.first + l.place) (namings_of (map local_of (drop l.local-index l.locals))))
      (names_from l.first (namings_of (map local_of l.locals))) (fits_names l.first (namings_of (map local_of l.locals)));
  within : l.place ≤ l.local-index;
}
