use Rattle.std.proofs.Common.{◌≡◌, [], ◌++◌, List, Option, Some, map, flat_map, ap, sym, subst, ◌∙◌, arith}
use Rattle.std.proofs.lemmas.List.{length-map}
use Rattle.std.proofs.lemmas.Result.{err_from_is_err_and}
use Rattle.comp_model.specs.Core.{CoreRefusal}
use Rattle.comp_model.specs.CoreModules.{Field}
use Rattle.core_model.specs.Items.{each_behind}
use Rattle.core_model.specs.Rule.{first_broken, late_import, repeated_id, broken_parts}
use Rattle.core_model.proofs.Lists.{append-nil}
use Rattle.core_names.specs.ModuleIds.{AreNamesOf, places_in}
use Rattle.core_syntax.specs.Fields.{field_of, fields_of}
use Rattle.core_checks.specs.Refusals.{by_rule}
use Rattle.core_checks.proofs.First.{broken-list, refused-as, refused-second, left-of-three}
use Rattle.core_checks.proofs.Weighed.{fields-weigh}
use Rattle.core_checks.proofs.rules.check_rules.Goals as goal

pub returns-in_err-check_order-clause-refused : goal.returns-in_err-check_order-clause-refused
returns-in_err-check_order-clause-refused c =
    let p = err_from_is_err_and c.from_residual.result c.from_residual.ensures.1 in
    let fs : List Field = fields_of c.args.fields.now in
    let order : List (Option CoreRefusal) = each_behind late_import [] fs in
    let ids : List (Option CoreRefusal) = each_behind repeated_id [] fs in
    rw (p.1, p.2) (by_rule (broken-list order (ids ++ flat_map (broken_parts fs) fs) c.in_err-check_order.field-0.0 c.in_err-check_order.ensures))

pub names_of-requires : goal.names_of-requires
names_of-requires c = record { few = omega (arith, fields-weigh (fields_of c.args.fields.now), length-map c.args.fields.now field_of, c.requires.weight) }

pub returns-in_err-names_of-clause-refused : goal.returns-in_err-names_of-clause-refused
returns-in_err-names_of-clause-refused c =
    let p = err_from_is_err_and c.from_residual-in_err-names_of.result c.from_residual-in_err-names_of.ensures.1 in
    let fs : List Field = fields_of c.args.fields.now in
    let order : List (Option CoreRefusal) = each_behind late_import [] fs in
    let ids : List (Option CoreRefusal) = each_behind repeated_id [] fs in
    rw (p.1, p.2) (refused-second order ids (flat_map (broken_parts fs) fs) c.in_err-names_of.field-0.0 c.in_ok-check_order.ensures c.in_err-names_of.ensures.told)

pub returns-in_err-check_fields-clause-refused : goal.returns-in_err-check_fields-clause-refused
returns-in_err-check_fields-clause-refused c =
    let p = err_from_is_err_and c.from_residual-in_err-check_fields.result c.from_residual-in_err-check_fields.ensures.1 in
    let fs : List Field = fields_of c.args.fields.now in
    let order : List (Option CoreRefusal) = each_behind late_import [] fs in
    let ids : List (Option CoreRefusal) = each_behind repeated_id [] fs in
    let same : first_broken (flat_map (broken_parts c.in_ok-scope.scope) (fields_of c.fields.result.now)) ≡ first_broken (flat_map (broken_parts fs) fs) =
    ap (λ gs. first_broken (flat_map (broken_parts c.in_ok-scope.scope) gs)) c.fields.ensures ∙ ap (λ gs. first_broken (flat_map (broken_parts gs) gs)) c.in_ok-scope.ensures.fields in
    rw (p.1, p.2)
    (refused-as _ _ c.in_err-check_fields.field-0.0 (same ∙ left-of-three order ids (flat_map (broken_parts fs) fs) c.in_ok-check_order.ensures c.in_ok-names_of.ensures.told) c.in_err-check_fields.ensures.told)

pub into_names-requires : goal.into_names-requires
into_names-requires c =
    let places = map Some c.check_fields.new.places.items in
    let found = flat_map (places_in c.in_ok-scope.scope) (fields_of c.fields.result.now) in
    sym (append-nil places) ∙ c.in_ok-check_fields.ensures.found [] ∙ ap (λ xs. map Some xs ++ (found ++ [])) c.new-places.ensures.items ∙ append-nil found
    ∙ ap (λ gs. flat_map (places_in c.in_ok-scope.scope) gs) c.fields.ensures

pub returns-clause-kept : goal.returns-clause-kept
returns-clause-kept c =
    let fs : List Field = fields_of c.args.fields.now in
    let order : List (Option CoreRefusal) = each_behind late_import [] fs in
    let ids : List (Option CoreRefusal) = each_behind repeated_id [] fs in
    let same : first_broken (flat_map (broken_parts c.in_ok-scope.scope) (fields_of c.fields.result.now)) ≡ first_broken (flat_map (broken_parts fs) fs) =
    ap (λ gs. first_broken (flat_map (broken_parts c.in_ok-scope.scope) gs)) c.fields.ensures ∙ ap (λ gs. first_broken (flat_map (broken_parts gs) gs)) c.in_ok-scope.ensures.fields in
    sym (same ∙ left-of-three order ids (flat_map (broken_parts fs) fs) c.in_ok-check_order.ensures c.in_ok-names_of.ensures.told) ∙ c.in_ok-check_fields.ensures.told

pub returns-clause-names : goal.returns-clause-names
returns-clause-names c = subst (AreNamesOf c.into_names.result) c.in_ok-scope.ensures.fields c.into_names.ensures
