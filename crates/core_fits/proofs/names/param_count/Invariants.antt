use Rattle.std.proofs.Common.{◌≡◌, slice_get, unwrap_or, drop, map}
use Rattle.core_syntax.specs.Fields.{field_of}
use Rattle.core_write.specs.NamesWritten.{param_counts}
use Rattle.core_fits.proofs.names.param_count.Given as goal

-- it is the one that is left so many types in front of it
abbrev pub invariant-loop-field : goal.invariant-loop-field
invariant-loop-field l = unwrap_or (slice_get (param_counts (map field_of (drop l.field-index l.fields))) l.before) 0 ≡ unwrap_or (slice_get (param_counts (map field_of l.fields)) l.index) 0
