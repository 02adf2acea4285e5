use Rattle.std.proofs.Common.{[], ◌∷◌, ◌++◌, option_map, sym, ◌∙◌}
use Rattle.std.proofs.lemmas.Result.{err_from_is_err_and}
use Rattle.core_model.specs.Rule.{mismatch, unknown_in_option, unknown_in_signature}
use Rattle.core_syntax.specs.Ids.{reference_of}
use Rattle.core_syntax.specs.Fields.{type_of}
use Rattle.core_checks.proofs.First.{left-of-one, left-of-list, alone, broken-list, broken-as, told-as}
use Rattle.core_checks.proofs.uses.check_use.Goals as goal

pub returns-in_err-check_signature : goal.returns-in_err-check_signature
returns-in_err-check_signature c =
    let p = err_from_is_err_and c.from_residual-in_err-check_signature.result c.from_residual-in_err-check_signature.ensures.1 in
    let i = unknown_in_option c.args.scope.now (option_map reference_of c.args.use_.now.index) in
    let s = unknown_in_signature c.args.scope.now (option_map type_of c.args.use_.now.inline) in
    let m = mismatch c.args.scope.now (option_map reference_of c.args.use_.now.index) (option_map type_of c.args.use_.now.inline) in
    rw (p.1, p.2)
    (broken-as _ _ c.in_err-check_signature.field-0.0 (sym (left-of-one i (s ++ m ∷ []) c.in_ok-check_index.ensures))
    (broken-list s (m ∷ []) c.in_err-check_signature.field-0.0 c.in_err-check_signature.ensures))

pub returns : goal.returns
returns c =
    let i = unknown_in_option c.args.scope.now (option_map reference_of c.args.use_.now.index) in
    let s = unknown_in_signature c.args.scope.now (option_map type_of c.args.use_.now.inline) in
    let m = mismatch c.args.scope.now (option_map reference_of c.args.use_.now.index) (option_map type_of c.args.use_.now.inline) in
    told-as _ _ c.check_match.result
    (sym (alone m) ∙ sym (left-of-list s (m ∷ []) c.in_ok-check_signature.ensures) ∙ sym (left-of-one i (s ++ m ∷ []) c.in_ok-check_index.ensures))
    c.check_match.ensures
