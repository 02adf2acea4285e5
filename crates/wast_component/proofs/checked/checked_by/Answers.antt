use Rattle.std.proofs.Common.{◌∙◌, sym, ap, List, option_map}
use Rattle.comp_model.specs.CoreModules.{CoreModule}
use Rattle.comp_scopes.specs.Unmet.{unmet_core}
use Rattle.core_model.specs.Rule.{core_rule}
use Rattle.core_syntax.specs.Fields.{fields_of}
use Rattle.core_syntax.specs.declared.fields.ModuleField.{ModuleField}
use Rattle.open_scopes.specs.Refusals.{refusal_of}
use Rattle.wast_component.proofs.checked.checked_by.Goals as goal

pub invariant_of-result : goal.invariant_of-result
invariant_of-result c = record {
  ruled = c.refusal_of-refusal.ensures ∙ sym (ap (λ (m : CoreModule). option_map refusal_of (unmet_core (core_rule m.fields))) c.module_by-parsed.ensures ∙ ap (λ (fs : List ModuleField). option_map refusal_of (unmet_core (core_rule (fields_of fs)))) c.as_slice.ensures.value);
}
