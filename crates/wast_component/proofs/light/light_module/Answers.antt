use Rattle.std.proofs.Common.{◌≡◌, ◌∙◌, refl, ap, sym, true, false, nat_lt}
use Rattle.std.specs.Global.{Vec}
use Rattle.comp_model.specs.CoreModules.{CoreModule}
use Rattle.core_model.specs.Weight.{weight_alone}
use Rattle.core_syntax.specs.Fields.{fields_of}
use Rattle.core_syntax.specs.declared.fields.ModuleField.{ModuleField}
use Rattle.tree_build.specs.Cores.{module_of}
use Rattle.wast_component.specs.Modules.{all_fields}
use Rattle.wast_component.proofs.Weighed.{light_entry, empty_entry}
use Rattle.wast_component.proofs.light.light_module.Goals as goal

pub returns-then-is_heavy : goal.returns-then-is_heavy
returns-then-is_heavy c =
    let m : CoreModule = module_of (all_fields c.args.all.now) c.args.named.now in
    let heavy : nat_lt 67_108_864 (weight_alone m) ≡ true = ap (λ (x : CoreModule). nat_lt 67_108_864 (weight_alone x)) (sym c.parsed_module.ensures) ∙ sym c.is_heavy.ensures ∙ c.if-is_heavy.true in
    empty_entry (λ (v : Vec ModuleField). fields_of v.items) c.args.all.now _ m refl heavy

pub returns-else-is_heavy : goal.returns-else-is_heavy
returns-else-is_heavy c =
    let m : CoreModule = module_of (all_fields c.args.all.now) c.args.named.now in
    let light : nat_lt 67_108_864 (weight_alone m) ≡ false = ap (λ (x : CoreModule). nat_lt 67_108_864 (weight_alone x)) (sym c.parsed_module.ensures) ∙ sym c.is_heavy.ensures ∙ c.if-is_heavy.false in
    light_entry (all_fields c.args.all.now) c.args.named.now light
