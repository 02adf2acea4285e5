use Rattle.std.proofs.Common.{◌≡◌, ◌<◌, ◌^◌, drop, map, flat_map, Some, None}
use Rattle.comp_model.specs.Weight.{weight_of_all}
use Rattle.core_model.specs.Rule.{first_broken, broken_parts}
use Rattle.core_model.specs.Weight.{weight_of_field}
use Rattle.core_model.specs.Resolved.{numbered_field}
use Rattle.core_syntax.specs.Fields.{field_of}
use Rattle.core_names.specs.ModuleIds.{places_in}
use Rattle.core_resolve.proofs.Changed.{changed_from}
use Rattle.core_resolve.proofs.field.number_each.Given as goal

abbrev pub ghost-number_field : goal.ghost-number_field
ghost-number_field g a = g.source

-- what is left completes the change, breaks no rule, is light and has the places that are left
abbrev pub invariant-loop-field : goal.invariant-loop-field
invariant-loop-field g l = record {
  changed : changed_from field_of (numbered_field g.source) l.field-index l.fields ≡ map (numbered_field g.source) (map field_of l.initial.fields);
  kept : first_broken (flat_map (broken_parts g.source) (map field_of (drop l.field-index l.fields))) ≡ None;
  light : weight_of_all weight_of_field (map field_of (drop l.field-index l.fields)) < 2 ^ 31;
  places : map Some l.left ≡ flat_map (places_in g.source) (map field_of (drop l.field-index l.fields));
}
