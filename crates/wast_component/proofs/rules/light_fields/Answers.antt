use Rattle.std.proofs.Common.{◌≡◌, ◌∙◌, ap, List}
use Rattle.core_model.specs.Weight.{core_weight}
use Rattle.core_syntax.specs.Fields.{fields_of}
use Rattle.core_syntax.specs.Measures.{capped}
use Rattle.core_syntax.specs.declared.fields.ModuleField.{ModuleField}
use Rattle.wast_component.proofs.Weighed.{fields_light, same_fields}
use Rattle.wast_component.proofs.rules.light_fields.Goals as goal

pub returns : goal.returns
returns c =
    let fs = fields_of c.args.fields.items in
    let weighs : c.core_weight.result ≡ capped (core_weight fs) = c.core_weight.ensures ∙ ap (λ (xs : List ModuleField). capped (core_weight (fields_of xs))) c.deref.ensures.value in
    record { same = same_fields fs c.core_weight.result weighs c.if-core_weight-gt-WEIGHT_LIMIT.false; light = fields_light fs c.core_weight.result weighs c.if-core_weight-gt-WEIGHT_LIMIT.false }
