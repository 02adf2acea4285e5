use Rattle.std.proofs.Common.{◌≡◌, ◌∙◌, ap, sym, subst, map, List, []}
use Rattle.comp_model.specs.CoreModules.{CoreModule}
use Rattle.comp_scopes.specs.Form.{form, plan}
use Rattle.comp_scopes.specs.Resolved.{binary_of}
use Rattle.comp_tree.specs.Marks.{marks_of}
use Rattle.comp_tree.specs.Model.{scope_of}
use Rattle.tree_resolve.specs.Planned.{planned_of}
use Rattle.tree_resolve.specs.Source.{IsSource}
use Rattle.tree_write.specs.Wire.{the_encoding}
use Rattle.wast_component.specs.Entry.{entry_of}
use Rattle.wast_component.specs.Modules.{ruled_fields, modules_of, numbered_encoding}
use Rattle.wast_component.specs.declared.checked.Checked.{Checked}
use Rattle.wast_component.proofs.Encodings.{form_kept, plan_kept}
use Rattle.wast_component.proofs.component.resolve_modules.Goals as goal

pub returns-in-Ok-resolve-clause-form : goal.returns-in-Ok-resolve-clause-form
returns-in-Ok-resolve-clause-form c = λ s i.
    let x = c.args.scope.now in
    let cores : List Checked → List CoreModule = map (λ (k : Checked). entry_of k.parsed) in
    let same : cores c.as_slice.result.now ≡ modules_of (ruled_fields c.args.all.now) c.args.named.now = ap cores c.as_slice.ensures.value ∙ c.in-Ok.ensures in
    let from : IsSource s (scope_of (cores c.as_slice.result.now) x) (marks_of (cores c.as_slice.result.now) x) = subst (λ (cs : List CoreModule). IsSource s (scope_of cs x) (marks_of cs x)) (sym same) i in
    subst (λ (cs : List CoreModule). binary_of numbered_encoding (scope_of cs c.in-Ok-resolve.resolved) ≡ form the_encoding [] s) same (c.in-Ok-resolve.ensures.form s from ∙ form_kept s (c.in-Ok-resolve.ensures.rule s from))

pub returns-in-Ok-resolve-clause-plan : goal.returns-in-Ok-resolve-clause-plan
returns-in-Ok-resolve-clause-plan c = λ s i.
    let x = c.args.scope.now in
    let cores : List Checked → List CoreModule = map (λ (k : Checked). entry_of k.parsed) in
    let same : cores c.as_slice.result.now ≡ modules_of (ruled_fields c.args.all.now) c.args.named.now = ap cores c.as_slice.ensures.value ∙ c.in-Ok.ensures in
    let from : IsSource s (scope_of (cores c.as_slice.result.now) x) (marks_of (cores c.as_slice.result.now) x) = subst (λ (cs : List CoreModule). IsSource s (scope_of cs x) (marks_of cs x)) (sym same) i in
    subst (λ (cs : List CoreModule). planned_of cs c.in-Ok-resolve.resolved ≡ plan the_encoding [] s) same (c.in-Ok-resolve.ensures.plan s from ∙ plan_kept s)
