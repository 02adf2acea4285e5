-- The weight of what a visitor is told.
use Rattle.std.specs.Prelude.{ℕ, ◌+◌, ◌-◌, ◌^◌, min, length, List}
use Rattle.comp_model.specs.Core.{Text}
use Rattle.comp_model.specs.CoreModules.{CoreModule}
use Rattle.comp_model.specs.Weight.{weight_of_leaf, weight_of_names, weight_of_all}
use Rattle.comp_model.specs.Events.{Event, leaf, definition, ended, closed}

-- the greatest number of 64 bits stands for every greater one
abbrev pub capped : ℕ → ℕ
capped n = min n (2 ^ 64 - 1)

-- of inline exports, and of the export names in a path
abbrev pub weight_of_exports : List Text → ℕ
weight_of_exports ts = weight_of_all (λ t. 32 + length t) ts

-- the weight of the fields of a core module is given
module _ (core_weight : CoreModule → ℕ) where
  abbrev pub weight_of_event : Event → ℕ
  weight_of_event (leaf l) = weight_of_leaf core_weight l
  weight_of_event (definition names) = 32 + weight_of_names names
  weight_of_event _ = 32

  abbrev pub weigh_step : ℕ → Event → ℕ
  weigh_step n (ended o) = n
  weigh_step n closed = n
  weigh_step n e = capped (n + weight_of_event e)
