use Rattle.std.proofs.Common.{◌≡◌, List, Option, None, map, ap, sym, ◌∙◌}
use Rattle.std.proofs.lemmas.Result.{err_from_is_err_and}
use Rattle.comp_model.specs.Core.{CoreRefusal}
use Rattle.core_model.specs.Rule.{first_broken, unknown_in_value}
use Rattle.core_syntax.specs.Fields.{param_of, value_of}
use Rattle.core_checks.proofs.First.{left-of-list, broken-list, broken-as, told-as}
use Rattle.core_checks.proofs.values.check_type.Goals as goal

pub returns-in_err-check_params : goal.returns-in_err-check_params
returns-in_err-check_params c =
    let p = err_from_is_err_and c.from_residual.result c.from_residual.ensures.1 in
    let ps : List (Option CoreRefusal) = map (λ q. unknown_in_value c.args.types.now q.value) (map param_of c.args.ty.now.params.items) in
    let rs : List (Option CoreRefusal) = map (unknown_in_value c.args.types.now) (map value_of c.args.ty.now.results.items) in
    rw (p.1, p.2)
    (broken-list ps rs c.in_err-check_params.field-0.0
    (broken-as _ _ c.in_err-check_params.field-0.0 (ap (λ xs. first_broken (map (λ q. unknown_in_value c.args.types.now q.value) (map param_of xs))) c.as_slice.ensures.value) c.in_err-check_params.ensures))

pub returns : goal.returns
returns c =
    let ps : List (Option CoreRefusal) = map (λ q. unknown_in_value c.args.types.now q.value) (map param_of c.args.ty.now.params.items) in
    let rs : List (Option CoreRefusal) = map (unknown_in_value c.args.types.now) (map value_of c.args.ty.now.results.items) in
    let none : first_broken ps ≡ None =
    ap (λ xs. first_broken (map (λ q. unknown_in_value c.args.types.now q.value) (map param_of xs))) (sym c.as_slice.ensures.value) ∙ c.in_ok-check_params.ensures in
    told-as _ _ c.check_results.result
    (ap (λ xs. first_broken (map (unknown_in_value c.args.types.now) (map value_of xs))) c.as_slice-2.ensures.value ∙ sym (left-of-list ps rs none))
    c.check_results.ensures
