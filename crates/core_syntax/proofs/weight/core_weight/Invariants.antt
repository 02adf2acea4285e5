use Rattle.std.proofs.Common.{◌≡◌, ◌+◌, ◌<◌, ◌^◌, drop, map}
use Rattle.comp_model.specs.Weight.{weight_of_all}
use Rattle.core_model.specs.Weight.{weight_of_field}
use Rattle.core_syntax.specs.Fields.{field_of}
use Rattle.core_syntax.specs.Measures.{capped}
use Rattle.core_syntax.proofs.weight.core_weight.Given as goal

-- with what is left it is the whole
abbrev pub invariant-loop-field : goal.invariant-loop-field
invariant-loop-field l = record {
  sum : capped (l.total + weight_of_all weight_of_field (map field_of (drop l.field-index l.fields))) ≡ capped (weight_of_all weight_of_field (map field_of l.fields));
  within : l.total < 2 ^ 64;
}
