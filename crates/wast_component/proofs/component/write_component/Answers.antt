use Rattle.std.proofs.Common.{◌≡◌, ◌<◌, ◌^◌, ◌∙◌, sym, ap, subst, List}
use Rattle.comp_model.specs.CoreModules.{Field}
use Rattle.comp_model.specs.Model.{Scope}
use Rattle.comp_weight.specs.Cost.{cost_scope}
use Rattle.comp_wire.specs.Read.{FitsComponent, Reads}
use Rattle.wast_component.specs.Modules.{all_fields, ruled_fields, all_numbered, AreResolved}
use Rattle.wast_component.proofs.Chain.{all_are_resolved, all_writable, numbered_wire}
use Rattle.wast_component.proofs.component.write_component.Goals as goal

pub write_modules-requires-clause-resolved : goal.write_modules-requires-clause-resolved
write_modules-requires-clause-resolved c =
    let ruled : List (List Field) = ruled_fields c.args.ruled.items in
    let same : all_fields c.as_slice.result.now ≡ all_numbered ruled = ap all_fields c.as_slice.ensures.value ∙ c.in-Ok.ensures in
    subst AreResolved (sym same) (all_are_resolved ruled)

pub write_modules-requires-clause-fits : goal.write_modules-requires-clause-fits
write_modules-requires-clause-fits c =
    let ruled : List (List Field) = ruled_fields c.args.ruled.items in
    let same : all_fields c.as_slice.result.now ≡ all_numbered ruled = ap all_fields c.as_slice.ensures.value ∙ c.in-Ok.ensures in
    subst FitsComponent (numbered_wire ruled (all_fields c.as_slice.result.now) c.args.named.now c.args.scope.now same c.requires.resolved) c.requires.fits

pub write_modules-requires-clause-cost : goal.write_modules-requires-clause-cost
write_modules-requires-clause-cost c =
    let ruled : List (List Field) = ruled_fields c.args.ruled.items in
    let same : all_fields c.as_slice.result.now ≡ all_numbered ruled = ap all_fields c.as_slice.ensures.value ∙ c.in-Ok.ensures in
    subst (λ (s : Scope). cost_scope s < 2 ^ 32) (numbered_wire ruled (all_fields c.as_slice.result.now) c.args.named.now c.args.scope.now same c.requires.resolved) c.requires.cost

pub returns-in-Ok-marks-clause-reads : goal.returns-in-Ok-marks-clause-reads
returns-in-Ok-marks-clause-reads c =
    let ruled : List (List Field) = ruled_fields c.args.ruled.items in
    let same : all_fields c.as_slice.result.now ≡ all_numbered ruled = ap all_fields c.as_slice.ensures.value ∙ c.in-Ok.ensures in
    subst (Reads c.in-Ok-write_modules.bytes.items) (sym (numbered_wire ruled (all_fields c.as_slice.result.now) c.args.named.now c.args.scope.now same c.requires.resolved)) c.in-Ok-write_modules.ensures.reads

pub write_modules-requires-clause-writable : goal.write_modules-requires-clause-writable
write_modules-requires-clause-writable c = all_writable c.args.ruled.items (all_fields c.as_slice.result.now) c.args.named.now (ap all_fields c.as_slice.ensures.value ∙ c.in-Ok.ensures) c.requires.ruled c.requires.light
