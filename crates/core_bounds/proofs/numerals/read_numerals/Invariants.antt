use Rattle.std.proofs.Common.{map, drop}
use Rattle.core_model.specs.Words.{FieldsWord}
use Rattle.core_syntax.specs.Fields.{field_of}
use Rattle.core_bounds.proofs.numerals.read_numerals.Given as goal

-- where those that are left are words, all are
abbrev pub invariant-loop-field : goal.invariant-loop-field
invariant-loop-field l = FieldsWord (map field_of (drop l.field-index l.fields)) → FieldsWord (map field_of l.fields)
