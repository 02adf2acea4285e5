use Rattle.std.proofs.Common.{◌≡◌, drop, map}
use Rattle.core_model.specs.Uncovered.{core_uncovered}
use Rattle.core_syntax.specs.Fields.{field_of}
use Rattle.core_syntax.proofs.uncovered.core_uncovered.Given as goal

-- what is left decides
abbrev pub invariant-loop-field : goal.invariant-loop-field
invariant-loop-field l = core_uncovered (map field_of (drop l.field-index l.fields)) ≡ core_uncovered (map field_of l.fields)
