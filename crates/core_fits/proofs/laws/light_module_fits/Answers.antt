use Rattle.core_fits.proofs.Light.{light-fits}
use Rattle.core_fits.proofs.laws.light_module_fits.Goals as goal

pub returns : goal.returns
returns c = light-fits
