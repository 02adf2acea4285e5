use Rattle.core_fits.proofs.PartsSized.{section_sized}
use Rattle.core_fits.proofs.sections.fits_part.Goals as goal

pub returns : goal.returns
returns c = section_sized c.items_size.result _ _ c.fits_section.result c.items_size.ensures c.fits_section.ensures
