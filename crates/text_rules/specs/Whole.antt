-- What the rules make of a whole text.
use Rattle.std.specs.Prelude.{◌≡◌, ◌⊎◌, [], ◌∷◌}
use Rattle.comp_model.specs.Core.{Text}
use Rattle.comp_model.specs.CoreModules.{CoreModule}
use Rattle.comp_model.specs.Model as m
use Rattle.comp_model.specs.declared.row.ScopeKind.TheVariants as kinds
use Rattle.comp_model.specs.Model.{Def, Scope, no_leaf, ◌▸◌}
use Rattle.comp_model.specs.declared.row.Row.TheVariants as rows
use Rattle.comp_model.specs.declared.row.Row.{Row}
use Rattle.comp_model.specs.ItemNames.{first_or_none}
use Rattle.core_model.specs.Words.{FieldsWord}
use Rattle.comp_weight.specs.FromText.{FromText}
use Rattle.comp_expanded.specs.OfText.{OfText}
use Rattle.text_rules.specs.Made.{Made, empty}

-- a component of a text, with the id and label of its definition
abbrev pub IsComponent : Def → Type 0
IsComponent (m.define ns n) = (c : Scope) × (n ≡ m.row rows.Component (m.scope c ▸ no_leaf)) × (m.kind_of c ≡ kinds.Component) × (m.id_of c ≡ first_or_none ns.ids) × (m.label_of c ≡ first_or_none ns.labels)
    × FromText c × OfText c

-- a core module, with the id and label of its definition, and short numerals
abbrev pub IsModule : Def → Type 0
IsModule (m.define ns n) = (c : CoreModule) × (n ≡ m.row rows.CoreModule (m.core_source c ▸ no_leaf)) × ((c.naming).id ≡ first_or_none ns.ids) × ((c.naming).label ≡ first_or_none ns.labels) × FieldsWord c.fields

-- the bytes of a text in binary form
abbrev pub IsBytes : Row → Def → Type 0
IsBytes t (m.define ns n) = (b : Text) × (n ≡ m.row t (m.text b ▸ no_leaf))

-- one definition alone
abbrev pub one_definition : Def → Made
one_definition d = record empty { defs = d ∷ [] }

abbrev pub IsOfComponent : Made → Type 0
IsOfComponent a = (d : Def) × (a ≡ one_definition d) × (IsComponent d ⊎ IsBytes rows.Component d)

abbrev pub IsOfModule : Made → Type 0
IsOfModule a = (d : Def) × (a ≡ one_definition d) × (IsModule d ⊎ IsBytes rows.CoreModule d)
