use Rattle.std.proofs.Common.{◌≡◌, Some, None, option_map, slice_get, sym, ◌∙◌, ap}
use Rattle.comp_model.specs.declared.Space.TheVariants.{CoreType}
use Rattle.core_model.specs.Items.{ids_in, meant}
use Rattle.core_model.specs.Types.{signature_of, defined, is_type}
use Rattle.core_syntax.specs.Ids.{reference_of}
use Rattle.core_syntax.specs.Fields.{type_of, def_of}
use Rattle.core_checks.specs.Parts.{type_defs}
use Rattle.core_checks.proofs.Definitions.{absent, present}
use Rattle.core_checks.proofs.uses.is_written_at.Goals as goal

pub returns-in-None-type_def : goal.returns-in-None-type_def
returns-in-None-type_def c =
    let at : Some c.in-Some.number ≡ meant (ids_in CoreType c.args.scope.now) (reference_of c.args.index.now) =
    sym c.in-Some.is ∙ c.try_resolve.ensures ∙ ap (λ ids. meant ids (reference_of c.args.index.now)) c.types.ensures in
    let none : None ≡ slice_get (type_defs c.args.scope.now) c.in-Some.number = ap (option_map (λ d. def_of d.now)) (sym c.in-None-type_def.is) ∙ c.type_def.ensures in
    absent c.args.scope.now (meant (ids_in CoreType c.args.scope.now) (reference_of c.args.index.now)) c.in-Some.number (signature_of (ids_in CoreType c.args.scope.now) (type_of c.args.ty.now)) at none

pub returns-in-Some-type_def : goal.returns-in-Some-type_def
returns-in-Some-type_def c =
    let at : Some c.in-Some.number ≡ meant (ids_in CoreType c.args.scope.now) (reference_of c.args.index.now) =
    sym c.in-Some.is ∙ c.try_resolve.ensures ∙ ap (λ ids. meant ids (reference_of c.args.index.now)) c.types.ensures in
    let found : Some (def_of c.in-Some-type_def.def.now) ≡ slice_get (type_defs c.args.scope.now) c.in-Some.number = ap (option_map (λ d. def_of d.now)) (sym c.in-Some-type_def.is) ∙ c.type_def.ensures in
    c.defines.ensures ∙ ap (λ ids. is_type (signature_of ids (type_of c.args.ty.now)) (defined ids (def_of c.in-Some-type_def.def.now))) c.types-in-Some-type_def.ensures
    ∙ present c.args.scope.now (meant (ids_in CoreType c.args.scope.now) (reference_of c.args.index.now)) c.in-Some.number (signature_of (ids_in CoreType c.args.scope.now) (type_of c.args.ty.now)) at (def_of c.in-Some-type_def.def.now) found
