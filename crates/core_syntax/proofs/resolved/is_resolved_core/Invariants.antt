use Rattle.std.proofs.Common.{◌≡◌, drop, map}
use Rattle.std.specs.List.{list_all}
use Rattle.core_model.specs.IsResolved.{field_resolved}
use Rattle.core_syntax.specs.Fields.{field_of}
use Rattle.core_syntax.proofs.resolved.is_resolved_core.Given as goal

-- what is left decides
abbrev pub invariant-loop-field : goal.invariant-loop-field
invariant-loop-field l = list_all field_resolved (map field_of (drop l.field-index l.fields)) ≡ list_all field_resolved (map field_of l.fields)
