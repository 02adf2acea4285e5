use Rattle.std.proofs.Common.{◌≡◌, ◌<◌, ◌^◌, ◌∙◌, ap, arith, length, map, subst, sym, List}
use Rattle.comp_model.specs.CoreModules.{CoreModule}
use Rattle.comp_tree.specs.Model.{scope_of}
use Rattle.comp_weight.proofs.Spelled.{component-cost}
use Rattle.comp_wire.specs.Spelled.{spell_component}
use Rattle.tree_write.specs.FewItems.{FewItems}
use Rattle.tree_write.specs.Wire.{the_encoding, wire_scope}
use Rattle.wast_component.specs.Entry.{entry_of}
use Rattle.wast_component.specs.Modules.{all_fields, modules_of}
use Rattle.wast_component.specs.declared.coded.Coded.{Coded}
use Rattle.wast_component.proofs.LightItems.{few_items}
use Rattle.wast_component.proofs.component.write_modules.Goals as goal

pub encode_scope-requires-clause-length : goal.encode_scope-requires-clause-length
encode_scope-requires-clause-length c =
    let cores : List Coded → List CoreModule = map (λ (k : Coded). entry_of k.parsed) in
    let same : cores c.as_slice.result.now ≡ modules_of (all_fields c.args.all.now) c.args.named.now = ap cores c.as_slice.ensures.value ∙ c.in-Ok.ensures in
    let short : length (spell_component (wire_scope (modules_of (all_fields c.args.all.now) c.args.named.now) c.args.scope.now)) < 2 ^ 32 = omega (arith, component-cost _ c.requires.cost, c.requires.cost) in
    subst (λ (cs : List CoreModule). length (spell_component (wire_scope cs c.args.scope.now)) < 2 ^ 32) (sym same) short

pub encode_scope-requires-clause-few : goal.encode_scope-requires-clause-few
encode_scope-requires-clause-few c =
    let cores : List Coded → List CoreModule = map (λ (k : Coded). entry_of k.parsed) in
    let same : cores c.as_slice.result.now ≡ modules_of (all_fields c.args.all.now) c.args.named.now = ap cores c.as_slice.ensures.value ∙ c.in-Ok.ensures in
    let few : FewItems (scope_of (modules_of (all_fields c.args.all.now) c.args.named.now) c.args.scope.now) = few_items the_encoding _ c.requires.fits.binary c.requires.cost in
    subst (λ (cs : List CoreModule). FewItems (scope_of cs c.args.scope.now)) (sym same) few
