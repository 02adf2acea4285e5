use Rattle.std.proofs.Common.{◌≡◌, ◌<◌, ◌^◌, ◌++◌, ℕ, List, Option, Some, drop, map, flat_map}
use Rattle.core_model.specs.Rule.{first_broken, broken_parts}
use Rattle.core_model.specs.Weight.{core_weight}
use Rattle.core_syntax.specs.Fields.{field_of}
use Rattle.core_names.specs.ModuleIds.{places_in}
use Rattle.core_checks.proofs.fields.check_fields.Given as goal

-- what is left decides, weighs as little, and completes the places
abbrev pub invariant-loop-field : goal.invariant-loop-field
invariant-loop-field l = record {
  left : first_broken (flat_map (broken_parts l.scope) (map field_of (drop l.field-index l.fields))) ≡ first_broken (flat_map (broken_parts l.scope) (map field_of l.fields));
  found : (behind : List (Option ℕ)) → map Some l.places.items ++ (flat_map (places_in l.scope) (map field_of (drop l.field-index l.fields)) ++ behind)
      ≡ map Some l.initial.places.items ++ (flat_map (places_in l.scope) (map field_of l.fields) ++ behind);
  weight : core_weight (map field_of (drop l.field-index l.fields)) < 2 ^ 31;
}
