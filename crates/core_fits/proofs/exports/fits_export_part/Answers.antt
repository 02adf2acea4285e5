use Rattle.core_fits.proofs.PartsSized.{section_sized}
use Rattle.core_fits.proofs.exports.fits_export_part.Goals as goal

pub returns : goal.returns
returns c = section_sized c.exports_size.result _ _ c.fits_section.result c.exports_size.ensures c.fits_section.ensures
