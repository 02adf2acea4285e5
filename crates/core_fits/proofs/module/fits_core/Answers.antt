use Rattle.std.proofs.Common.{◌≡◌, ◌↔◌, true, refl, sym, subst}
use Rattle.comp_model.specs.CoreModules.{Naming}
use Rattle.core_model.proofs.Stays.{resolved-stay}
use Rattle.core_syntax.specs.Fields.{naming_of, fields_of}
use Rattle.core_write.specs.Module.{FitsModule}
use Rattle.core_fits.proofs.Light.{light-fits}
use Rattle.core_fits.proofs.Exact.{exact}
use Rattle.core_fits.proofs.module.fits_core.Goals as goal

pub returns-then-is_light : goal.returns-then-is_light
returns-then-is_light c =
    let n : Naming = naming_of c.args.id.now c.args.name.now in
    let h : FitsModule n (fields_of c.args.fields.now) = subst (FitsModule n) (resolved-stay (fields_of c.args.fields.now) c.requires.resolved) (light-fits n (fields_of c.args.fields.now) c.read_numerals.ensures (c.is_light.ensures c.if-is_light.true)) in
    record { fits = (λ e. h, λ e. refl) }

pub returns : goal.returns
returns c = record { fits = subst (λ b. (b ≡ true) ↔ FitsModule (naming_of c.args.id.now c.args.name.now) (fields_of c.args.fields.now)) (sym c.fits_sections.ensures) (exact (naming_of c.args.id.now c.args.name.now) (fields_of c.args.fields.now)) }
