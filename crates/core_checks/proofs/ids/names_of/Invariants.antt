use Rattle.std.proofs.Common.{◌≡◌, [], take, drop, map}
use Rattle.core_model.specs.Items.{each_behind}
use Rattle.core_model.specs.Rule.{first_broken, repeated_id}
use Rattle.core_syntax.specs.Fields.{field_of}
use Rattle.core_names.specs.ModuleIds.{AreIdsOf}
use Rattle.core_checks.proofs.ids.names_of.Given as goal

-- the names are those of the fields so far, and what is left decides
abbrev pub invariant-loop-field : goal.invariant-loop-field
invariant-loop-field l = record {
  names : AreIdsOf l.names (map field_of (take l.field-index l.fields));
  left : first_broken (each_behind repeated_id (map field_of (take l.field-index l.fields)) (map field_of (drop l.field-index l.fields))) ≡ first_broken (each_behind repeated_id [] (map field_of l.fields));
}
