use Rattle.std.proofs.Common.{◌≡◌, ◌++◌, drop, map, flat_map}
use Rattle.core_syntax.specs.Fields.{field_of}
use Rattle.core_write.specs.NamesWritten.{params_of_field}
use Rattle.core_write.proofs.names.param_counts.Given as goal

-- what is left completes the list
abbrev pub invariant-loop-field : goal.invariant-loop-field
invariant-loop-field l = l.counts.items ++ flat_map params_of_field (map field_of (drop l.field-index l.fields)) ≡ flat_map params_of_field (map field_of l.fields)
