use Rattle.std.proofs.Common.{◌+◌, ◌≤◌, drop, map}
use Rattle.core_model.specs.Items.{naming_of, items_in}
use Rattle.core_model.specs.NameSection.{names_from}
use Rattle.core_syntax.specs.Fields.{field_of}
use Rattle.core_fits.specs.Tests.{fits_names}
use Rattle.core_fits.proofs.Sizes.{SoFar}
use Rattle.core_fits.proofs.names.item_names_size.Given as goal

-- with what is left it is the whole
abbrev pub invariant-loop-field : goal.invariant-loop-field
invariant-loop-field l = record {
  size : SoFar l.size (names_from (0 + l.place) (map naming_of (items_in l.space (map field_of (drop l.field-index l.fields))))) (fits_names (0 + l.place) (map naming_of (items_in l.space (map field_of (drop l.field-index l.fields)))))
      (names_from 0 (map naming_of (items_in l.space (map field_of l.fields)))) (fits_names 0 (map naming_of (items_in l.space (map field_of l.fields))));
  within : l.place ≤ l.field-index;
}
