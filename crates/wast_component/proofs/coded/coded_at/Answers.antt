use Rattle.std.proofs.Common.{◌∙◌, ap, subst, sym}
use Rattle.comp_model.specs.CoreModules.{CoreModule}
use Rattle.core_model.specs.IsResolved.{are_resolved}
use Rattle.core_write.specs.Module.{FitsModule}
use Rattle.wast_component.specs.Modules.{all_fields}
use Rattle.wast_component.proofs.Modules.{resolved_at}
use Rattle.wast_component.proofs.coded.coded_at.Goals as goal

pub coded_module-requires : goal.coded_module-requires
coded_module-requires c = record {
  resolved = ap (λ (m : CoreModule). are_resolved m.fields) c.parsed_module.ensures ∙ resolved_at (all_fields c.args.all.now) c.args.named.now.fields c.requires.resolved;
  fits = subst (λ (m : CoreModule). FitsModule m.naming m.fields) (sym c.parsed_module.ensures) c.requires.fits;
}
