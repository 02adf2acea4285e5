use Rattle.std.proofs.Common.{List, ◌≡◌, ◌∷◌, ◌∙◌, length, refl, ap, sym, subst, arith}
use Rattle.std.specs.Global.{Vec}
use Rattle.std.specs.Vec.Iter.{into_iter_items}
use Rattle.comp_model.specs.CoreModules.{Field}
use Rattle.core_syntax.specs.Fields.{fields_of}
use Rattle.core_syntax.specs.declared.fields.ModuleField.{ModuleField}
use Rattle.wast_component.specs.Modules.{all_fields, all_light, AreRuled}
use Rattle.wast_component.specs.declared.ruled.Ruled.{Ruled}
use Rattle.wast_component.proofs.Modules.{appended, finished, ruled_pushed}
use Rattle.wast_component.proofs.rules.rules_of.Goals as goal

pub loop-fields-preserved : goal.loop-fields-preserved
loop-fields-preserved c =
    let at = c.loop-fields in
    let steps : into_iter_items at.fields-iterator ≡ c.in-Some.fields ∷ into_iter_items c.next.new.self = c.in-Some.ensures.steps.0 in
    let rest : List (List Field) = all_light (all_fields (into_iter_items c.next.new.self)) in
    let was = at.invariant.left in
    let gone = c.in-Some.ensures.steps.1 in
    let short = ap length steps in
    record {
      done = appended (λ (r : Ruled). fields_of r.fields.items) at.ruled.items c.push.new.self.items c.in_ok-one.one _ rest _ c.in_ok-push.ensures.items
          (ap (λ (vs : List (Vec ModuleField)). all_light (all_fields vs)) steps ∙ sym (ap (λ (fs : List Field). fs ∷ rest) (c.in_ok-one.ensures.fields ∙ c.light_fields.ensures.same)))
          at.invariant.done;
      ruled = subst AreRuled (sym c.in_ok-push.ensures.items) (ruled_pushed at.ruled.items c.in_ok-one.one at.invariant.ruled c.in_ok-one.ensures.ruled);
      left = omega arith;
    }

pub returns-clause-fields : goal.returns-clause-fields
returns-clause-fields c =
    let gives : into_iter_items c.into_iter-fields-iterator.result ≡ c.args.all.items = c.into_iter-fields-iterator.ensures.into_iter_gives.0 in
    finished (λ (r : Ruled). fields_of r.fields.items) (λ (vs : List (Vec ModuleField)). all_light (all_fields vs)) c.loop-fields.ruled.items (into_iter_items c.loop-fields.fields-iterator) (into_iter_items c.into_iter-fields-iterator.result) c.args.all.items refl (sym c.loop-fields.invariant.left ∙ c.in-None.ensures.steps.0) gives c.loop-fields.invariant.done
