use Rattle.std.proofs.Common.{◌≤◌, drop, map}
use Rattle.comp_model.specs.declared.Space.TheVariants.{CoreFunc}
use Rattle.core_model.specs.Items.{items_in}
use Rattle.core_syntax.specs.Fields.{field_of}
use Rattle.core_write.specs.NamesWritten.{param_counts, local_items_from}
use Rattle.core_fits.specs.Tests.{fits_locals}
use Rattle.core_fits.proofs.Sizes.{SoFar}
use Rattle.core_fits.proofs.names.all_locals_size.Given as goal

-- with what is left it is the whole
abbrev pub invariant-loop-field : goal.invariant-loop-field
invariant-loop-field l = record {
  size : SoFar l.size (local_items_from (param_counts (map field_of l.fields)) l.place (items_in CoreFunc (map field_of (drop l.field-index l.fields))))
      (fits_locals (param_counts (map field_of l.fields)) l.place (items_in CoreFunc (map field_of (drop l.field-index l.fields))))
      (local_items_from (param_counts (map field_of l.fields)) 0 (items_in CoreFunc (map field_of l.fields)))
      (fits_locals (param_counts (map field_of l.fields)) 0 (items_in CoreFunc (map field_of l.fields)));
  within : l.place ≤ l.field-index;
}
