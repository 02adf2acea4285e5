use Rattle.std.proofs.Common.{◌+◌, ◌≤◌, Some, length, drop, map, ap, arith}
use Rattle.std.proofs.lemmas.Result.{err_from_is_err_and}
use Rattle.core_model.specs.Rule.{broken_parts}
use Rattle.core_syntax.specs.Fields.{field_of}
use Rattle.core_names.specs.ModuleIds.{places_in}
use Rattle.core_checks.proofs.Found.{places-turn, places-end}
use Rattle.core_checks.proofs.Turns.{dropped, left-of-parts, refused-parts}
use Rattle.core_checks.proofs.Weighed.{rest-weighs}
use Rattle.core_checks.proofs.fields.check_fields.Goals as goal

pub loop-field-preserved : goal.loop-field-preserved
loop-field-preserved c = record {
  left = left-of-parts field_of c.args.fields.now c.loop-field.field-index c.field-item.result c.loop-field-test.true c.field-item.is
      (broken_parts c.args.scope.now) _ c.loop-field.invariant.left c.in_ok-check_field.ensures.told;
  found = places-turn (places_in c.args.scope.now) (field_of c.field-item.result) _ _ (map Some c.check_field.new.places.items) (map Some c.loop-field.places.items) (map Some c.args.places.now.items) _
      (ap (map field_of) (dropped field_of c.args.fields.now c.loop-field.field-index c.field-item.result c.loop-field-test.true c.field-item.is))
      c.in_ok-check_field.ensures.found c.loop-field.invariant.found;
  weight = rest-weighs (field_of c.field-item.result) (map field_of (drop (c.loop-field.field-index + 1) c.args.fields.now)) _
      (ap (map field_of) (dropped field_of c.args.fields.now c.loop-field.field-index c.field-item.result c.loop-field-test.true c.field-item.is)) c.loop-field.invariant.weight;
}

pub returns-in_err-check_field-clause-told : goal.returns-in_err-check_field-clause-told
returns-in_err-check_field-clause-told c =
    let p = err_from_is_err_and c.from_residual.result c.from_residual.ensures.1 in
    rw (p.1, p.2)
    (refused-parts field_of c.args.fields.now c.loop-field.field-index c.field-item.result c.loop-field-test.true c.field-item.is
    (broken_parts c.args.scope.now) _ c.loop-field.invariant.left c.in_err-check_field.field-0.0 c.in_err-check_field.ensures.told)

pub returns-clause-found : goal.returns-clause-found
returns-clause-found c =
    let end : length c.args.fields.now ≤ c.loop-field.field-index = omega arith in
    places-end (places_in c.args.scope.now) field_of c.args.fields.now c.loop-field.field-index (map Some c.loop-field.places.items) (map Some c.args.places.now.items) _ end c.loop-field.invariant.found
