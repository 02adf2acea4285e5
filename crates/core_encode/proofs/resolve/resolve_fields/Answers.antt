use Rattle.std.proofs.Common.{◌≡◌, List, true, None, sym, subst}
use Rattle.comp_model.specs.CoreModules.{Field}
use Rattle.core_model.specs.IsResolved.{are_resolved}
use Rattle.core_model.specs.Module.{core_bytes, module_with}
use Rattle.core_model.specs.Resolved.{resolved_fields}
use Rattle.core_model.specs.Rule.{core_rule}
use Rattle.core_model.specs.Words.{FieldsWord}
use Rattle.core_model.proofs.Accepted.{resolved-accepted}
use Rattle.core_model.proofs.ResolvedBytes.{core_bytes-resolved}
use Rattle.core_model.proofs.ResolvedFields.{resolved-are-resolved}
use Rattle.core_model.proofs.Stays.{resolved-twice}
use Rattle.core_fits.proofs.Light.{light-fits}
use Rattle.core_checks.specs.Refusals.{IsRefused}
use Rattle.core_syntax.specs.Fields.{fields_of}
use Rattle.core_write.specs.Module.{FitsModule}
use Rattle.core_encode.proofs.resolve.resolve_fields.Goals as goal

pub returns-in-Err-clause-refused : goal.returns-in-Err-clause-refused
returns-in-Err-clause-refused c = subst (λ xs. IsRefused (core_rule (fields_of xs)) c.in-Err.refusal) c.as_slice.ensures.value c.in-Err.ensures.refused

pub returns-in-Ok-number_fields-clause-kept : goal.returns-in-Ok-number_fields-clause-kept
returns-in-Ok-number_fields-clause-kept c = subst (λ xs. core_rule (fields_of xs) ≡ None) c.as_slice.ensures.value c.in-Ok.ensures.kept

pub returns-in-Ok-number_fields-clause-resolved : goal.returns-in-Ok-number_fields-clause-resolved
returns-in-Ok-number_fields-clause-resolved c = subst (λ fs. are_resolved fs ≡ true) (sym c.in-Ok-number_fields.ensures) (resolved-are-resolved (fields_of c.args.fields.now.items))

pub returns-in-Ok-number_fields-clause-bytes : goal.returns-in-Ok-number_fields-clause-bytes
returns-in-Ok-number_fields-clause-bytes c n =
    let old : List Field = fields_of c.args.fields.now.items in
    subst (λ fs. core_bytes (module_with n fs) ≡ core_bytes (module_with n old)) (sym c.in-Ok-number_fields.ensures) (core_bytes-resolved n old)

pub returns-in-Ok-number_fields-clause-fits : goal.returns-in-Ok-number_fields-clause-fits
returns-in-Ok-number_fields-clause-fits c n light =
    let bounded : FieldsWord (fields_of c.args.fields.now.items) = subst (λ xs. FieldsWord (fields_of xs)) c.as_slice-2.ensures.value c.read_numerals.ensures in
    subst (FitsModule n) (sym c.in-Ok-number_fields.ensures) (light-fits n (fields_of c.args.fields.now.items) bounded light)

pub returns-in-Ok-number_fields-clause-again : goal.returns-in-Ok-number_fields-clause-again
returns-in-Ok-number_fields-clause-again c =
    let kept : core_rule (fields_of c.args.fields.now.items) ≡ None = subst (λ xs. core_rule (fields_of xs) ≡ None) c.as_slice.ensures.value c.in-Ok.ensures.kept in
    subst (λ fs. core_rule fs ≡ None) (sym c.in-Ok-number_fields.ensures) (resolved-accepted (fields_of c.args.fields.now.items) kept)

pub returns-in-Ok-number_fields-clause-unchanged : goal.returns-in-Ok-number_fields-clause-unchanged
returns-in-Ok-number_fields-clause-unchanged c = subst (λ fs. resolved_fields fs ≡ fs) (sym c.in-Ok-number_fields.ensures) (resolved-twice (fields_of c.args.fields.now.items))
