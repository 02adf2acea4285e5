use Rattle.std.proofs.Common.{◌+◌, ◌≤◌, drop, map}
use Rattle.core_model.specs.NameSection.{names_from}
use Rattle.core_syntax.specs.Fields.{param_of}
use Rattle.core_write.specs.NamesWritten.{namings_of}
use Rattle.core_fits.specs.Tests.{fits_names}
use Rattle.core_fits.proofs.Sizes.{SoFar}
use Rattle.core_fits.proofs.names.param_names_size.Given as goal

-- with what is left it is the whole
abbrev pub invariant-loop-param : goal.invariant-loop-param
invariant-loop-param l = record {
  size : SoFar l.size (names_from (0 + l.place) (namings_of (map param_of (drop l.param-index l.params)))) (fits_names (0 + l.place) (namings_of (map param_of (drop l.param-index l.params))))
      (names_from 0 (namings_of (map param_of l.params))) (fits_names 0 (namings_of (map param_of l.params)));
  within : l.place ≤ l.param-index;
}
