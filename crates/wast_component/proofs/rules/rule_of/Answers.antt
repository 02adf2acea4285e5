use Rattle.std.proofs.Common.{◌≡◌, refl, subst, List, None, arith}
use Rattle.core_model.specs.Rule.{core_rule}
use Rattle.core_model.specs.Words.{FieldsWord}
use Rattle.core_names.specs.ModuleIds.{AreNamesOf}
use Rattle.core_checks.specs.Refusals.{IsRefused}
use Rattle.core_syntax.specs.Fields.{fields_of}
use Rattle.core_syntax.specs.declared.fields.ModuleField.{ModuleField}
use Rattle.wast_component.proofs.Modules.{by_rule_alone}
use Rattle.wast_component.proofs.rules.rule_of.Goals as goal

pub returns : goal.returns
returns c =
    let fields = c.args.fields.items in
    let light = c.requires in
    record {
      fields = refl;
      ruled = (
        omega (arith, light),
        subst (λ (fs : List ModuleField). FieldsWord (fields_of fs)) c.as_slice.ensures.value c.read_numerals.ensures,
        by_rule_alone (core_rule (fields_of fields)) c.in-Err.refusal (subst (λ (fs : List ModuleField). IsRefused (core_rule (fields_of fs)) c.in-Err.refusal) c.as_slice-2.ensures.value c.in-Err.ensures.refused) c.in_default.not-NoMemory,
      );
    }

pub returns-in-Ok-clause-ruled : goal.returns-in-Ok-clause-ruled
returns-in-Ok-clause-ruled c =
    let light = c.requires in (
      omega (arith, light),
      subst (λ (fs : List ModuleField). FieldsWord (fields_of fs)) c.as_slice.ensures.value c.read_numerals.ensures,
      (
        subst (λ (fs : List ModuleField). core_rule (fields_of fs) ≡ None) c.as_slice-2.ensures.value c.in-Ok.ensures.kept,
        subst (λ (fs : List ModuleField). AreNamesOf c.in-Ok.names (fields_of fs)) c.as_slice-2.ensures.value c.in-Ok.ensures.names,
      ),
    )
