use Rattle.std.proofs.Common.{drop, map}
use Rattle.core_syntax.specs.Fields.{field_of}
use Rattle.core_write.specs.Exports.{exports_from, no_counts}
use Rattle.core_write.proofs.Exported.{Below}
use Rattle.core_fits.specs.Tests.{fits_exports}
use Rattle.core_fits.proofs.Sizes.{SoFar}
use Rattle.core_fits.proofs.exports.exports_size.Given as goal

-- with what is left it is the whole, and no count passes that of the fields
abbrev pub invariant-loop-field : goal.invariant-loop-field
invariant-loop-field l = record {
  size : SoFar l.size (exports_from l.counts (map field_of (drop l.field-index l.fields))) (fits_exports l.counts (map field_of (drop l.field-index l.fields)))
      (exports_from no_counts (map field_of l.fields)) (fits_exports no_counts (map field_of l.fields));
  below : Below l.counts l.field-index;
}
