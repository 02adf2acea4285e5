use Rattle.std.proofs.Common.{◌≡◌, ◌+◌, ◌++◌, drop, map, length}
use Rattle.comp_model.specs.Payloads.{joined}
use Rattle.core_syntax.specs.Fields.{field_of}
use Rattle.core_write.specs.Exports.{exports_from, FitsExports, no_counts}
use Rattle.core_write.proofs.Exported.{Below}
use Rattle.core_write.proofs.exports.push_exports.Given as goal

-- what is left completes the exports, and no count passes that of the fields
abbrev pub invariant-loop-field : goal.invariant-loop-field
invariant-loop-field l = record {
  appended : l.out.items ++ joined (exports_from l.counts (map field_of (drop l.field-index l.fields))) ≡ l.initial.out.items ++ joined (exports_from no_counts (map field_of l.fields));
  number : l.count + length (exports_from l.counts (map field_of (drop l.field-index l.fields))) ≡ length (exports_from no_counts (map field_of l.fields));
  fits : FitsExports l.counts (map field_of (drop l.field-index l.fields));
  below : Below l.counts l.field-index;
}
