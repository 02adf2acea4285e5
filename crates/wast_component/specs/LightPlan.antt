-- The origins of few definitions.
use Rattle.std.specs.Prelude.{◌≡◌, ◌<◌, ◌^◌, ◌⊎◌, []}
use Rattle.comp_model.specs.Model.{Scope}
use Rattle.comp_model.specs.Origins.{Origins, no_origins}
use Rattle.comp_scopes.specs.Form.{form, plan}
use Rattle.comp_scopes.specs.Rowed.{Rowed}
use Rattle.comp_weight.specs.Cost.{cost_scope}
use Rattle.tree_write.specs.Wire.{the_encoding}

-- none, or the plan of a component of the text whose form costs less than 2 ^ 32 bytes
abbrev pub IsLightPlan : Origins → Type 0
IsLightPlan os = (os ≡ no_origins) ⊎ ((s : Scope) × Rowed s × (os ≡ plan the_encoding [] s) × (cost_scope (form the_encoding [] s) < 2 ^ 32))
