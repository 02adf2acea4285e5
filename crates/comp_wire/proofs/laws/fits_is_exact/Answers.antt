use Rattle.comp_wire.proofs.FitsTest.{exact}
use Rattle.comp_wire.proofs.Fit.{fits_sections, sections_fit}
use Rattle.comp_wire.proofs.laws.fits_is_exact.Goals as goal

pub returns : goal.returns
returns c = record { exact = λ s. (λ e. sections_fit s ((exact s).0 e), λ h. (exact s).1 (fits_sections s h)) }
