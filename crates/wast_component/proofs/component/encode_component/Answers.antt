use Rattle.std.proofs.Common.{◌≡◌, ◌<◌, ◌^◌, ◌∙◌, inl, inr, refl, sym, ap, subst, map, List, []}
use Rattle.comp_model.specs.CoreModules.{CoreModule}
use Rattle.comp_model.specs.Model as m
use Rattle.comp_scopes.specs.Form.{form, plan}
use Rattle.comp_scopes.specs.Resolved.{binary_of}
use Rattle.comp_scopes.specs.Rule.{ScopeRule}
use Rattle.comp_tree.specs.Model.{scope_of}
use Rattle.comp_expanded.specs.IsResolved.{IsResolved}
use Rattle.comp_weight.specs.Cost.{cost_scope}
use Rattle.comp_wire.specs.Read.{FitsComponent}
use Rattle.tree_build.specs.Cores.{cores_of}
use Rattle.tree_resolve.specs.Planned.{planned_of}
use Rattle.tree_write.specs.Wire.{the_encoding}
use Rattle.wast_component.specs.Encodable.{IsEncodable}
use Rattle.wast_component.specs.Modules.{ruled_fields, light_module, modules_of, numbered_encoding, AreLight}
use Rattle.wast_component.proofs.Causes.{unmet-refuses}
use Rattle.wast_component.proofs.Chain.{form_cost, form_fits, prepared, ruled_light, ruled_lent, on_ok, written_as}
use Rattle.core_model.specs.Weight.{module_weight}
use Rattle.wast_component.proofs.Small.{expansion_has_room}
use Rattle.wast_component.proofs.Weighed.{all_are_light}
use Rattle.wast_component.proofs.component.encode_component.Goals as goal

pub resolve_modules-requires-clause-source : goal.resolve_modules-requires-clause-source
resolve_modules-requires-clause-source c =
    let lights = ruled_light c.args.cores c.in-Ok-rules_of.ruled.items c.in-Ok-light_modules.light.items c.as_slice-3.ensures.value c.as_slice-4.ensures.value c.in-Ok-light_modules.ensures c.in-Ok-rules_of.ensures.fields in
    let same = ruled_lent c.as_slice-5.ensures.value c.as_slice-6.ensures.value lights in
    let k = prepared c.args.cores c.args.scope.now c.in-Ok-expand.expanded c.requires.text c.as_slice.ensures.value c.as_slice-2.ensures.value c.in-Ok.ensures.covered c.in-Ok.ensures.light c.in-Ok-expand.ensures.expands same in
    (_, k.source)

pub resolve_modules-requires-clause-small : goal.resolve_modules-requires-clause-small
resolve_modules-requires-clause-small c =
    let lights = ruled_light c.args.cores c.in-Ok-rules_of.ruled.items c.in-Ok-light_modules.light.items c.as_slice-3.ensures.value c.as_slice-4.ensures.value c.in-Ok-light_modules.ensures c.in-Ok-rules_of.ensures.fields in
    let same = ruled_lent c.as_slice-5.ensures.value c.as_slice-6.ensures.value lights in
    let k = prepared c.args.cores c.args.scope.now c.in-Ok-expand.expanded c.requires.text c.as_slice.ensures.value c.as_slice-2.ensures.value c.in-Ok.ensures.covered c.in-Ok.ensures.light c.in-Ok-expand.ensures.expands same in
    expansion_has_room module_weight _ _ _ k.source.rowed k.source.of_text k.source.expands k.light

pub returns-in-Err-resolve_modules-clause-refused :
    goal.returns-in-Err-resolve_modules-clause-refused
returns-in-Err-resolve_modules-clause-refused c =
    let s : m.Scope = scope_of (cores_of c.args.cores) c.args.scope.now in
    let lights = ruled_light c.args.cores c.in-Ok-rules_of.ruled.items c.in-Ok-light_modules.light.items c.as_slice-3.ensures.value c.as_slice-4.ensures.value c.in-Ok-light_modules.ensures c.in-Ok-rules_of.ensures.fields in
    let same = ruled_lent c.as_slice-5.ensures.value c.as_slice-6.ensures.value lights in
    let k = prepared c.args.cores c.args.scope.now c.in-Ok-expand.expanded c.requires.text c.as_slice.ensures.value c.as_slice-2.ensures.value c.in-Ok.ensures.covered c.in-Ok.ensures.light c.in-Ok-expand.ensures.expands same in
    elim c.in-Err-resolve_modules.ensures.refused [
      | inl h ↦ inl h
      | inr r ↦ inr (unmet-refuses s c.in-Err-resolve_modules.refusal k.covered k.light (r s k.source))
    ]

pub write_component-requires-clause-light : goal.write_component-requires-clause-light
write_component-requires-clause-light c =
    let lights = ruled_light c.args.cores c.in-Ok-rules_of.ruled.items c.in-Ok-light_modules.light.items c.as_slice-3.ensures.value c.as_slice-4.ensures.value c.in-Ok-light_modules.ensures c.in-Ok-rules_of.ensures.fields in
    let wrote = ruled_lent refl c.as_slice-7.ensures.value lights in
    subst AreLight (sym wrote) (all_are_light (cores_of c.args.cores))

pub write_component-requires-clause-resolved : goal.write_component-requires-clause-resolved
write_component-requires-clause-resolved c =
    let new = c.in-Ok-resolve_modules.resolved in
    let lights = ruled_light c.args.cores c.in-Ok-rules_of.ruled.items c.in-Ok-light_modules.light.items c.as_slice-3.ensures.value c.as_slice-4.ensures.value c.in-Ok-light_modules.ensures c.in-Ok-rules_of.ensures.fields in
    let same = ruled_lent c.as_slice-5.ensures.value c.as_slice-6.ensures.value lights in
    let wrote = ruled_lent refl c.as_slice-7.ensures.value lights in
    subst (λ (cs : List CoreModule). IsResolved (scope_of cs new)) (same ∙ sym wrote) c.in-Ok-resolve_modules.ensures.resolved

pub write_component-requires-clause-fits : goal.write_component-requires-clause-fits
write_component-requires-clause-fits c =
    let s : m.Scope = scope_of (cores_of c.args.cores) c.args.scope.now in
    let new = c.in-Ok-resolve_modules.resolved in
    let lights = ruled_light c.args.cores c.in-Ok-rules_of.ruled.items c.in-Ok-light_modules.light.items c.as_slice-3.ensures.value c.as_slice-4.ensures.value c.in-Ok-light_modules.ensures c.in-Ok-rules_of.ensures.fields in
    let same = ruled_lent c.as_slice-5.ensures.value c.as_slice-6.ensures.value lights in
    let wrote = ruled_lent refl c.as_slice-7.ensures.value lights in
    let k = prepared c.args.cores c.args.scope.now c.in-Ok-expand.expanded c.requires.text c.as_slice.ensures.value c.as_slice-2.ensures.value c.in-Ok.ensures.covered c.in-Ok.ensures.light c.in-Ok-expand.ensures.expands same in
    let rule : ScopeRule the_encoding [] s = c.in-Ok-resolve_modules.ensures.rule s k.source in
    let formed : binary_of numbered_encoding (scope_of (map light_module (cores_of c.args.cores)) new) ≡ form the_encoding [] s = subst (λ (cs : List CoreModule). binary_of numbered_encoding (scope_of cs new) ≡ form the_encoding [] s) same (c.in-Ok-resolve_modules.ensures.form s k.source) in
    subst (λ (cs : List CoreModule). FitsComponent (binary_of numbered_encoding (scope_of cs new))) (sym wrote) (subst FitsComponent (sym formed) (form_fits s c.requires.text k.light k.covered rule))

pub write_component-requires-clause-cost : goal.write_component-requires-clause-cost
write_component-requires-clause-cost c =
    let s : m.Scope = scope_of (cores_of c.args.cores) c.args.scope.now in
    let new = c.in-Ok-resolve_modules.resolved in
    let lights = ruled_light c.args.cores c.in-Ok-rules_of.ruled.items c.in-Ok-light_modules.light.items c.as_slice-3.ensures.value c.as_slice-4.ensures.value c.in-Ok-light_modules.ensures c.in-Ok-rules_of.ensures.fields in
    let same = ruled_lent c.as_slice-5.ensures.value c.as_slice-6.ensures.value lights in
    let wrote = ruled_lent refl c.as_slice-7.ensures.value lights in
    let k = prepared c.args.cores c.args.scope.now c.in-Ok-expand.expanded c.requires.text c.as_slice.ensures.value c.as_slice-2.ensures.value c.in-Ok.ensures.covered c.in-Ok.ensures.light c.in-Ok-expand.ensures.expands same in
    let formed : binary_of numbered_encoding (scope_of (map light_module (cores_of c.args.cores)) new) ≡ form the_encoding [] s = subst (λ (cs : List CoreModule). binary_of numbered_encoding (scope_of cs new) ≡ form the_encoding [] s) same (c.in-Ok-resolve_modules.ensures.form s k.source) in
    subst (λ (cs : List CoreModule). cost_scope (binary_of numbered_encoding (scope_of cs new)) < 2 ^ 32) (sym wrote) (subst (λ (b : m.Scope). cost_scope b < 2 ^ 32) (sym formed) (form_cost s c.requires.text k.light))

pub returns-clause-encodable : goal.returns-clause-encodable
returns-clause-encodable c =
    let s : m.Scope = scope_of (cores_of c.args.cores) c.args.scope.now in
    let lights = ruled_light c.args.cores c.in-Ok-rules_of.ruled.items c.in-Ok-light_modules.light.items c.as_slice-3.ensures.value c.as_slice-4.ensures.value c.in-Ok-light_modules.ensures c.in-Ok-rules_of.ensures.fields in
    let same = ruled_lent c.as_slice-5.ensures.value c.as_slice-6.ensures.value lights in
    let k = prepared c.args.cores c.args.scope.now c.in-Ok-expand.expanded c.requires.text c.as_slice.ensures.value c.as_slice-2.ensures.value c.in-Ok.ensures.covered c.in-Ok.ensures.light c.in-Ok-expand.ensures.expands same in
    let encodable : IsEncodable s = record { covered = k.covered; light = k.light; rule = c.in-Ok-resolve_modules.ensures.rule s k.source } in
    on_ok c.write_component.result (IsEncodable s) encodable

pub returns-clause-written : goal.returns-clause-written
returns-clause-written c =
    let s : m.Scope = scope_of (cores_of c.args.cores) c.args.scope.now in
    let new = c.in-Ok-resolve_modules.resolved in
    let lights = ruled_light c.args.cores c.in-Ok-rules_of.ruled.items c.in-Ok-light_modules.light.items c.as_slice-3.ensures.value c.as_slice-4.ensures.value c.in-Ok-light_modules.ensures c.in-Ok-rules_of.ensures.fields in
    let same = ruled_lent c.as_slice-5.ensures.value c.as_slice-6.ensures.value lights in
    let wrote = ruled_lent refl c.as_slice-7.ensures.value lights in
    let k = prepared c.args.cores c.args.scope.now c.in-Ok-expand.expanded c.requires.text c.as_slice.ensures.value c.as_slice-2.ensures.value c.in-Ok.ensures.covered c.in-Ok.ensures.light c.in-Ok-expand.ensures.expands same in
    let formed : binary_of numbered_encoding (scope_of (modules_of (ruled_fields c.in-Ok-rules_of.ruled.items) c.as_slice-7.result.now) new) ≡ form the_encoding [] s = ap (λ (cs : List CoreModule). binary_of numbered_encoding (scope_of cs new)) (wrote ∙ sym same) ∙ c.in-Ok-resolve_modules.ensures.form s k.source in
    let planned : planned_of (modules_of (ruled_fields c.in-Ok-rules_of.ruled.items) c.as_slice-7.result.now) new ≡ plan the_encoding [] s = ap (λ (cs : List CoreModule). planned_of cs new) (wrote ∙ sym same) ∙ c.in-Ok-resolve_modules.ensures.plan s k.source in
    written_as s _ _ c.write_component.result formed planned c.write_component.ensures.reads c.write_component.ensures.marks
