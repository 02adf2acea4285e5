use Rattle.comp_wire.proofs.RowsFit.{rows_fit}
use Rattle.comp_wire.proofs.FitShort.{fit_short}
use Rattle.comp_wire.proofs.Fit.{fits_sections, sections_fit}
use Rattle.comp_wire.proofs.laws.short_rows_can_be_written.Goals as goal

pub returns : goal.returns
returns c = record {
  fits = λ core s k r b u h. sections_fit s (rows_fit core s k r b u h);
  no_other = λ core s h. (h.kind, h.rows, h.binary, (fit_short core s (fits_sections s h)).1, h.short);
}
