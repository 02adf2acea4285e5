use Rattle.std.proofs.Common.{[], List, map, ap, sym, ◌∙◌}
use Rattle.std.proofs.lemmas.Result.{err_from_is_err_and}
use Rattle.comp_model.specs.CoreModules.{Local}
use Rattle.core_model.specs.Types.{written_params, ids_of}
use Rattle.core_model.specs.Rule.{first_broken}
use Rattle.core_syntax.specs.Fields.{use_of, local_of}
use Rattle.core_checks.specs.Parts.{broken_behind}
use Rattle.core_checks.proofs.First.{refused-as, refused-list}
use Rattle.core_checks.proofs.Behind.{within, behind-written}
use Rattle.core_checks.proofs.locals.names_within.Goals as goal

pub returns-in_err-register_written-clause-told : goal.returns-in_err-register_written-clause-told
returns-in_err-register_written-clause-told c =
    let p = err_from_is_err_and c.from_residual.result c.from_residual.ensures.1 in
    let types = c.args.types.now in
    let ps : List Local = written_params (use_of c.args.func.now.ty).signature in
    let ls : List Local = map local_of c.args.func.now.locals.items in
    let e = c.in_err-register_written.field-0.0 in
    rw (p.1, p.2)
    (refused-as _ _ e (within types ps ls)
    (refused-list (broken_behind types [] ps) (broken_behind types (ids_of ps) ls) e
    (refused-as _ _ e (ap (λ n. first_broken (broken_behind types n ps)) c.new-names.ensures) c.in_err-register_written.ensures.told)))

pub returns-in_err-register_locals-clause-told : goal.returns-in_err-register_locals-clause-told
returns-in_err-register_locals-clause-told c =
    let p = err_from_is_err_and c.from_residual-in_err-register_locals.result c.from_residual-in_err-register_locals.ensures.1 in
    let types = c.args.types.now in
    let ps : List Local = written_params (use_of c.args.func.now.ty).signature in
    rw (p.1, p.2)
    (refused-as _ _ c.in_err-register_locals.field-0.0
    (ap (λ xs. first_broken (broken_behind types c.register_written.new.names (map local_of xs))) c.as_slice.ensures.value
    ∙ behind-written types ps (map local_of c.args.func.now.locals.items) c.new-names.result c.register_written.new.names c.new-names.ensures c.in_ok-register_written.ensures.added c.in_ok-register_written.ensures.told)
    c.in_err-register_locals.ensures.told)

pub returns-clause-told : goal.returns-clause-told
returns-clause-told c =
    let types = c.args.types.now in
    let ps : List Local = written_params (use_of c.args.func.now.ty).signature in
    sym (ap (λ xs. first_broken (broken_behind types c.register_written.new.names (map local_of xs))) c.as_slice.ensures.value
    ∙ behind-written types ps (map local_of c.args.func.now.locals.items) c.new-names.result c.register_written.new.names c.new-names.ensures c.in_ok-register_written.ensures.added c.in_ok-register_written.ensures.told)
    ∙ c.in_ok-register_locals.ensures.told
