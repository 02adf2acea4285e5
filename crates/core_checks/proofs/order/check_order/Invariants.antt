use Rattle.std.proofs.Common.{◌≡◌, [], take, drop, map}
use Rattle.std.specs.List.{list_any}
use Rattle.core_model.specs.Items.{is_definition, each_behind}
use Rattle.core_model.specs.Rule.{first_broken, late_import}
use Rattle.core_syntax.specs.Fields.{field_of}
use Rattle.core_checks.proofs.order.check_order.Given as goal

-- whether a definition was gone over, and what is left decides
abbrev pub invariant-loop-field : goal.invariant-loop-field
invariant-loop-field l = record {
  defined : l.defined ≡ list_any is_definition (map field_of (take l.field-index l.fields));
  left : first_broken (each_behind late_import (map field_of (take l.field-index l.fields)) (map field_of (drop l.field-index l.fields))) ≡ first_broken (each_behind late_import [] (map field_of l.fields));
}
