-- Which components can be written, and when bytes are read as one.
use Rattle.std.specs.Prelude.{◌≡◌, ℕ, true, List, None}
use Rattle.comp_model.specs.Model.{Scope, kind_of}
use Rattle.comp_model.specs.declared.row.ScopeKind.TheVariants as kinds
use Rattle.comp_model.specs.Rows.{FitsRows}
use Rattle.comp_model.specs.Binary.{IsBinary}
use Rattle.comp_model.specs.Covered.{first_uncovered}
use Rattle.comp_wire.specs.Spelled.{spell_component}
use Rattle.comp_wire.specs.Short.{is_short}

-- A component that can be written: it has the shape of a binary component and no form that is read and never written, and every count,
-- index and length in it is below 2 ^ 32. A binary component has its core modules as bytes, so that no form stands in one.
pub record FitsComponent (component : Scope) : Type 0 where
  pub kind : kind_of component ≡ kinds.Component
  pub rows : FitsRows component
  pub binary : IsBinary component
  pub covered : first_uncovered (λ c. None) component ≡ None
  pub short : is_short component ≡ true

-- The bytes are read as the component (Component Model, binary format): it can be written, and they are its bytes. That they are
-- read as no other component is `bytes_read_once`.
pub record Reads (bytes : List ℕ) (component : Scope) : Type 0 where
  pub fits : FitsComponent component
  pub spelled : bytes ≡ spell_component component
