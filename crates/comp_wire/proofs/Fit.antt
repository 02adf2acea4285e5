-- A component can be written exactly where each of its definitions fits its line and each of its sections is short.
use Rattle.std.proofs.Common.{None}
use Rattle.comp_model.specs.Model.{Scope}
use Rattle.comp_wire.specs.Spelled.{FitsSections}
use Rattle.comp_wire.specs.Read.{FitsComponent}
use Rattle.comp_wire.proofs.Binary.{sections_binary}
use Rattle.comp_wire.proofs.RowsAgree.{sections_shaped}
use Rattle.comp_wire.proofs.RowsFit.{rows_fit}
use Rattle.comp_wire.proofs.FitShort.{fit_short, component_kind}

pub fits_sections : (s : Scope) → FitsComponent s → FitsSections s
fits_sections s h = rows_fit (λ c. None) s h.kind h.rows h.binary h.covered h.short

pub sections_fit : (s : Scope) → FitsSections s → FitsComponent s
sections_fit s h = record {
  kind = component_kind s h;
  rows = sections_shaped s h;
  binary = sections_binary s h;
  covered = (fit_short (λ c. None) s h).1;
  short = (fit_short (λ c. None) s h).0;
}
