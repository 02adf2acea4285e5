use Rattle.std.proofs.Common.{List, Option, map, option_map, ap, sym, ◌∙◌}
use Rattle.comp_model.specs.Core.{Id, CoreRefusal}
use Rattle.core_model.specs.Rule.{unknown_in_value, first_broken}
use Rattle.core_syntax.specs.Fields.{value_of, param_of}
use Rattle.core_names.specs.Resolving.{unknown_error}
use Rattle.core_names.proofs.Outcomes.{on-ok, on-err}
use Rattle.core_names.proofs.Mixed.{first-none, first-refusal}
use Rattle.core_names.proofs.resolving.resolve_function.Goals as goal

pub returns-in-Ok-clause-known : goal.returns-in-Ok-clause-known
returns-in-Ok-clause-known g c =
    let ids : List (Option Id) = g.R.ResolveCoreType.type_ids c.args.resolver.now in
    let ps : List (Option CoreRefusal) = map (λ p. unknown_in_value ids p.value) (map param_of c.args.ty.now.params.items) in
    let rs : List (Option CoreRefusal) = map (unknown_in_value ids) (map value_of c.args.ty.now.results.items) in
    on-ok c.resolve_results.result c.resolve_results.ensures.known
    (λ e. first-none ps rs c.in-Ok.ensures.known ∙ ap (λ j. first_broken (map (unknown_in_value j) (map value_of c.args.ty.now.results.items))) (sym c.in-Ok.ensures.ids) ∙ e)

pub returns-in-Ok-clause-refused : goal.returns-in-Ok-clause-refused
returns-in-Ok-clause-refused g c =
    let ids : List (Option Id) = g.R.ResolveCoreType.type_ids c.args.resolver.now in
    let ps : List (Option CoreRefusal) = map (λ p. unknown_in_value ids p.value) (map param_of c.args.ty.now.params.items) in
    let rs : List (Option CoreRefusal) = map (unknown_in_value ids) (map value_of c.args.ty.now.results.items) in
    on-err c.resolve_results.result c.resolve_results.ensures.refused
    (λ e h. h ∙ ap (λ j. option_map unknown_error (first_broken (map (unknown_in_value j) (map value_of c.args.ty.now.results.items)))) c.in-Ok.ensures.ids
    ∙ ap (option_map unknown_error) (sym (first-none ps rs c.in-Ok.ensures.known)))

pub returns-in-Err-clause-refused : goal.returns-in-Err-clause-refused
returns-in-Err-clause-refused g c =
    let ids : List (Option Id) = g.R.ResolveCoreType.type_ids c.args.resolver.now in
    first-refusal unknown_error c.in-Err.refusal (map (λ p. unknown_in_value ids p.value) (map param_of c.args.ty.now.params.items)) (map (unknown_in_value ids) (map value_of c.args.ty.now.results.items)) c.in-Err.ensures.refused
