use Rattle.std.proofs.Common.{◌≡◌, drop, map}
use Rattle.core_syntax.specs.Fields.{field_of}
use Rattle.core_resolve.specs.Tables.{needed_in, with_needed}
use Rattle.core_resolve.proofs.needed.add_all_needed.Given as goal

-- what is left completes the table
abbrev pub invariant-loop-field : goal.invariant-loop-field
invariant-loop-field l = with_needed l.table (needed_in l.types (map field_of (drop l.field-index l.fields))) ≡ with_needed l.initial.table (needed_in l.types (map field_of l.fields))
