use Rattle.std.proofs.Common.{◌++◌, List, Some, map, flat_map, ap, sym, ◌∙◌}
use Rattle.std.proofs.lemmas.Result.{err_from_is_err_and}
use Rattle.comp_model.specs.CoreModules.{Local}
use Rattle.core_model.specs.Types.{written_params}
use Rattle.core_names.specs.ModuleIds.{place_in_instruction}
use Rattle.core_syntax.specs.Fields.{use_of, local_of, body_of}
use Rattle.core_checks.proofs.First.{refused-as}
use Rattle.core_checks.proofs.Weighed.{locals-few}
use Rattle.core_checks.proofs.Functions.{refused-in-use, refused-in-locals, left-of-body}
use Rattle.core_checks.proofs.fields.check_func.Goals as goal

pub returns-in_err-check_use-clause-told : goal.returns-in_err-check_use-clause-told
returns-in_err-check_use-clause-told c =
    let p = err_from_is_err_and c.from_residual.result c.from_residual.ensures.1 in
    let xs : List Local = written_params (use_of c.args.func.now.ty).signature ++ map local_of c.args.func.now.locals.items in
    rw (p.1, p.2) (refused-in-use c.args.scope.now (use_of c.args.func.now.ty) xs (body_of c.args.func.now.body) c.in_err-check_use.field-0.0 c.in_err-check_use.ensures)

pub names_within-requires : goal.names_within-requires
names_within-requires c = record { room = locals-few c.args.func.now c.requires.weight }

pub returns-in_err-locals-clause-told : goal.returns-in_err-locals-clause-told
returns-in_err-locals-clause-told c =
    let p = err_from_is_err_and c.from_residual-in_err-locals.result c.from_residual-in_err-locals.ensures.1 in
    let xs : List Local = written_params (use_of c.args.func.now.ty).signature ++ map local_of c.args.func.now.locals.items in
    rw (p.1, p.2)
    (refused-in-locals c.args.scope.now (use_of c.args.func.now.ty) xs (body_of c.args.func.now.body) c.types.result.now c.types.ensures c.in_ok-check_use.ensures
    c.in_err-locals.field-0.0 c.in_err-locals.ensures.told)

pub returns-in_err-check_body-clause-told : goal.returns-in_err-check_body-clause-told
returns-in_err-check_body-clause-told c =
    let p = err_from_is_err_and c.from_residual-in_err-check_body.result c.from_residual-in_err-check_body.ensures.1 in
    let xs : List Local = written_params (use_of c.args.func.now.ty).signature ++ map local_of c.args.func.now.locals.items in
    rw (p.1, p.2)
    (refused-as _ _ c.in_err-check_body.field-0.0
    (left-of-body c.args.scope.now (use_of c.args.func.now.ty) xs (body_of c.args.func.now.body) c.types.result.now c.types.ensures c.in_ok-check_use.ensures
    c.in_ok-locals.locals c.in_ok-locals.ensures.names c.in_ok-locals.ensures.told)
    c.in_err-check_body.ensures.told)

pub returns-clause-told : goal.returns-clause-told
returns-clause-told c =
    let xs : List Local = written_params (use_of c.args.func.now.ty).signature ++ map local_of c.args.func.now.locals.items in
    sym
    (left-of-body c.args.scope.now (use_of c.args.func.now.ty) xs (body_of c.args.func.now.body) c.types.result.now c.types.ensures c.in_ok-check_use.ensures
    c.in_ok-locals.locals c.in_ok-locals.ensures.names c.in_ok-locals.ensures.told)
    ∙ c.in_ok-check_body.ensures.told

pub returns-clause-found : goal.returns-clause-found
returns-clause-found c = λ behind.
    c.in_ok-check_body.ensures.found behind
    ∙ ap (λ ids. map Some c.args.places.now.items ++ (flat_map (place_in_instruction c.args.scope.now ids) (body_of c.args.func.now.body) ++ behind)) c.in_ok-locals.ensures.names
