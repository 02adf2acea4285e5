use Rattle.std.proofs.Common.{◌≡◌, ◌++◌, drop, map}
use Rattle.core_syntax.specs.Fields.{field_of}
use Rattle.core_resolve.specs.Tables.{written_in}
use Rattle.core_resolve.proofs.needed.defined_types.Given as goal

-- what is left completes the table
abbrev pub invariant-loop-field : goal.invariant-loop-field
invariant-loop-field l = l.table ++ written_in l.types (map field_of (drop l.field-index l.fields)) ≡ written_in l.types (map field_of l.fields)
