use Rattle.comp_wire.proofs.Fit.{fits_sections, sections_fit}
use Rattle.comp_wire.proofs.laws.writers_ask_no_more.Goals as goal

pub returns : goal.returns
returns c = record { exact = λ s. (sections_fit s, fits_sections s) }
