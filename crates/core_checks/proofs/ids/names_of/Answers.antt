use Rattle.std.proofs.Common.{◌≡◌, ◌+◌, ◌∷◌, ◌++◌, [], List, take, map, sym, ◌∙◌, subst}
use Rattle.std.proofs.lemmas.Result.{err_from_is_err_and}
use Rattle.comp_model.specs.CoreModules.{Field}
use Rattle.core_model.specs.Items.{declares, naming_of}
use Rattle.core_model.specs.Rule.{repeated_id}
use Rattle.core_syntax.specs.Fields.{field_of}
use Rattle.core_names.specs.ModuleIds.{AreIdsOf}
use Rattle.core_checks.specs.Named.{with_item}
use Rattle.core_checks.proofs.First.{refused-as}
use Rattle.core_checks.proofs.Turns.{taken, few-taken, left-behind, refused-behind-turn}
use Rattle.core_checks.proofs.Registered.{names-more, repeated-same, room-left}
use Rattle.core_checks.proofs.ids.names_of.Goals as goal

pub register_item-requires : goal.register_item-requires
register_item-requires c =
    record {
      room = room-left c.loop-field.names (map field_of (take c.loop-field.field-index c.args.fields.now)) c.loop-field.invariant.names
          (few-taken field_of c.args.fields.now c.loop-field.field-index _ c.requires.few);
    }

pub loop-field-preserved : goal.loop-field-preserved
loop-field-preserved c =
    let n = c.loop-field.names in
    let f : Field = field_of c.field-item.result in
    let before : List Field = map field_of (take c.loop-field.field-index c.args.fields.now) in
    let more : AreIdsOf (with_item n (declares f) (naming_of f).id) (before ++ f ∷ []) = names-more n before c.loop-field.invariant.names f in
    let after : map field_of (take (c.loop-field.field-index + 1) c.args.fields.now) ≡ before ++ f ∷ [] =
    taken field_of c.args.fields.now c.loop-field.field-index c.field-item.result c.loop-field-test.true c.field-item.is in
    record {
      names = subst (λ m. AreIdsOf m (map field_of (take (c.loop-field.field-index + 1) c.args.fields.now))) (sym c.in_ok-register_item.ensures.added)
          (subst (AreIdsOf (with_item n (declares f) (naming_of f).id)) (sym after) more);
      left = left-behind field_of c.args.fields.now c.loop-field.field-index c.field-item.result c.loop-field-test.true c.field-item.is repeated_id _
          c.loop-field.invariant.left (sym (repeated-same n before c.loop-field.invariant.names f) ∙ c.in_ok-register_item.ensures.told);
    }

pub returns-in_err-register_item-clause-told : goal.returns-in_err-register_item-clause-told
returns-in_err-register_item-clause-told c =
    let p = err_from_is_err_and c.from_residual.result c.from_residual.ensures.1 in
    let f : Field = field_of c.field-item.result in
    let before : List Field = map field_of (take c.loop-field.field-index c.args.fields.now) in
    rw (p.1, p.2)
    (refused-behind-turn field_of c.args.fields.now c.loop-field.field-index c.field-item.result c.loop-field-test.true c.field-item.is repeated_id _
    c.loop-field.invariant.left c.in_err-register_item.field-0.0
    (refused-as _ _ c.in_err-register_item.field-0.0 (repeated-same c.loop-field.names before c.loop-field.invariant.names f) c.in_err-register_item.ensures.told))
