use Rattle.std.proofs.Common.{◌&&◌, ap, sym, ◌∙◌}
use Rattle.comp_wire.specs.Fits.{is_word}
use Rattle.core_fits.proofs.SectionsSized.{names_sized}
use Rattle.core_fits.proofs.name_section.fits_names_part.Goals as goal

pub returns-then-names : goal.returns-then-names
returns-then-names c =
    names_sized c.names_size-names.result _ _ c.is_word.result c.add.result c.names_size-names.ensures c.add.ensures
    (c.is_word.ensures ∙ ap (λ b. b && is_word c.add.result) (sym c.if-names.true))
