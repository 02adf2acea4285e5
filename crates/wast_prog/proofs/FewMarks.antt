-- The marks of an encoding can be counted in 64 bits.
use Rattle.std.proofs.Common.{inl, inr, ◌<◌, ◌≤◌, ◌^◌, sym, subst, arith, List, []}
use Rattle.comp_model.specs.Model.{Scope}
use Rattle.comp_model.specs.Origins.{Origins}
use Rattle.comp_scopes.specs.Encoding.{Encoding}
use Rattle.comp_scopes.specs.Form.{form, plan}
use Rattle.comp_scopes.specs.Rowed.{Rowed}
use Rattle.comp_weight.specs.Cost.{cost_scope}
use Rattle.origin_lines.specs.Count.{marks_in}
use Rattle.tree_write.specs.Wire.{the_encoding}
use Rattle.wast_component.specs.LightPlan.{IsLightPlan}

pub few_marks : ((e : Encoding) (st : List Scope) (s : Scope) → Rowed s → marks_in (plan e st s) ≤ cost_scope (form e st s)) → (os : Origins) → IsLightPlan os → marks_in os < 2 ^ 64
few_marks law os (inl e) = subst (λ o. marks_in o < 2 ^ 64) (sym e) (omega arith)
few_marks law os (inr h) =
    let most = law the_encoding [] h.0 h.1 in
    let light = h.3 in
    subst (λ o. marks_in o < 2 ^ 64) (sym h.2) (omega (arith, most, light))
