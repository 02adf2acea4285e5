-- The bytes of a form are at most eight times the weight of its source; so it is short, and can be written.
use Rattle.std.proofs.Common.{◌≡◌, ℕ, ◌*◌, ◌<◌, ◌≤◌, ◌^◌, List, [], ◌∷◌, length, sym, subst, arith, true, Option, None}
use Rattle.comp_model.specs.declared.Space.{Space}
use Rattle.comp_model.specs.CoreModules.{CoreModule}
use Rattle.comp_model.specs.Model.{Scope, scope_of, kind_of}
use Rattle.comp_model.specs.declared.row.ScopeKind.TheVariants as kinds
use Rattle.comp_model.specs.Origins.{Origin}
use Rattle.comp_model.specs.Covered.{Uncovered, first_uncovered}
use Rattle.comp_model.specs.Weight.{weight, weight_of_scope}
use Rattle.comp_scopes.specs.Encoding.{Encoding}
use Rattle.comp_scopes.specs.Form.{form}
use Rattle.comp_scopes.specs.Plan.{Mark, marks, before, counts}
use Rattle.comp_scopes.specs.Rule.{ScopeRule}
use Rattle.comp_scopes.proofs.RowsRowed.{scope-rowed}
use Rattle.comp_scopes.proofs.FormRows.{form-fits}
use Rattle.comp_scopes.proofs.FormBinary.{form-binary}
use Rattle.comp_wire.specs.Short.{is_short}
use Rattle.comp_wire.specs.Spelled.{spell_component}
use Rattle.comp_wire.specs.Read.{FitsComponent}
use Rattle.comp_wire.specs.declared.defs.WireDef.{WireDef}
use Rattle.comp_wire.specs.declared.names.NameMaps.{NameMaps}
use Rattle.comp_wire.specs.Definitions.{named_defs, component_of_defs}
use Rattle.comp_wire.proofs.RowsFit.{rows_fit}
use Rattle.comp_wire.proofs.Fit.{sections_fit}
use Rattle.core_model.specs.Weight.{module_weight}
use Rattle.comp_weight.specs.Cost.{cost_scope}
use Rattle.comp_weight.specs.Formats.{ByFormats}
use Rattle.comp_weight.specs.FromText.{FromText}
use Rattle.comp_weight.proofs.Spelled.{component-cost}
use Rattle.comp_weight.proofs.Fitting.{short-scope}
use Rattle.comp_weight.proofs.Plans.{total, count-length, marks-total, before-total}
use Rattle.comp_weight.proofs.Forms.{form-cost}
use Rattle.comp_weight.proofs.Covered.{form-covered}
use Rattle.comp_weight.proofs.FairRows.{fair-defs}

module _ (e : Encoding) (formats : ByFormats e) where
  light : (s : Scope) → FromText s → 8 * weight module_weight s < 2 ^ 32 → cost_scope (form e [] s) ≤ 8 * weight module_weight s
  light (scope_of c id label ds) t small = form-cost e formats c id label ds small (fair-defs ds c t.rows (scope-rowed (scope_of c id label ds) t.rows t.written) t.numerals t.names)

  pub form-bytes : (s : Scope) → FromText s → 8 * weight module_weight s < 2 ^ 32 → length (spell_component (form e [] s)) ≤ 8 * weight module_weight s
  form-bytes s t small = let c = light s t small in omega (arith, c, component-cost (form e [] s) (omega (arith, c, small)))

  pub form-short : (s : Scope) → FromText s → 8 * weight module_weight s < 2 ^ 32 → is_short (form e [] s) ≡ true
  form-short s t small = short-scope (form e [] s) (omega (arith, light s t small, small))

  pub form-written : (core : CoreModule → Option Uncovered) (s : Scope) → FromText s → 8 * weight module_weight s < 2 ^ 32 → kind_of s ≡ kinds.Component → ScopeRule e [] s → first_uncovered core s ≡ None
      → FitsComponent (form e [] s)
  form-written core s t small k r u =
      sections_fit (form e [] s) (rows_fit core (form e [] s) k (form-fits e [] s t.rows t.names r) (form-binary e [] s (scope-rowed s t.rows t.written)) (form-covered core e [] s u) (form-short s t small))

  pub definitions-written : (core : CoreModule → Option Uncovered) (s : Scope) → FromText s → 8 * weight module_weight s < 2 ^ 32 → kind_of s ≡ kinds.Component → ScopeRule e [] s → first_uncovered core s ≡ None
      → (ds : List WireDef) (names : NameMaps) → component_of_defs (named_defs ds names) ≡ form e [] s → FitsComponent (component_of_defs (named_defs ds names))
  definitions-written core s t small k r u ds names same = subst FitsComponent (sym same) (form-written core s t small k r u)

counts-total : (cw : CoreModule → ℕ) (s : Space) (ms : List Mark) → counts s ms ≤ total ms
counts-total cw s [] = omega arith
counts-total cw s (m ∷ ms) = omega (arith, count-length cw s m.spaces, counts-total cw s ms)

pub items-few : (cw : CoreModule → ℕ) (st : List Scope) (s : Scope) (space : Space) → 16 * counts space (marks (s ∷ st)) ≤ weight_of_scope cw s
items-few cw st s space = omega (arith, counts-total cw space (marks (s ∷ st)), marks-total cw st s)

pub index-small : (cw : CoreModule → ℕ) (st : List Scope) (s : Scope) (space : Space) (o : Origin) → 16 * before space o (marks (s ∷ st)) ≤ weight_of_scope cw s
index-small cw st s space o = omega (arith, before-total cw space o (marks (s ∷ st)), marks-total cw st s)
