-- Where a generated outer alias leads.
use Rattle.std.specs.Prelude.{◌≡◌, ℕ, List, slice_get, Option, Some, None}
use Rattle.comp_model.specs.declared.Space.{Space}
use Rattle.comp_model.specs.Core.{counted}
use Rattle.comp_model.specs.Makers as make
use Rattle.comp_model.specs.Model.{index}
use Rattle.comp_model.specs.Origins.{outer_alias_of}
use Rattle.comp_model.specs.Spaces.{Declaration}
use Rattle.comp_scopes.specs.Form.{Made}
use Rattle.comp_scopes.specs.Names.{Denoted}
use Rattle.comp_scopes.specs.Renders.{item, binary_at}
use Rattle.comp_list.specs.declared.line.Led.{Led}
use Rattle.comp_list.specs.declared.line.Led.TheVariants.{Nowhere, To}
use Rattle.comp_list.specs.Listing.{spot_of}

-- item i of a space in the scope so many outward is an outer alias that is marked as generated
pub record IsGeneratedAlias (scopes : List (List Made)) (up : ℕ) (s : Space) (i : ℕ) : Type 0 where
  pub declaration : Declaration
  pub found : Made
  pub definition : ℕ
  pub reference : ℕ
  pub offset : ℕ
  pub count : ℕ
  pub target : ℕ
  pub there : item (binary_at scopes up) s i ≡ Some declaration
  pub stands : slice_get (binary_at scopes up) declaration.definition ≡ Some found
  pub marked : found.origin ≡ outer_alias_of definition reference
  pub is_alias : found.made ≡ make.alias_outer (counted offset count) (index target) s

-- what the rule on names says, as a line has it
abbrev pub led_of : Option Denoted → Led
led_of None = Nowhere
led_of (Some d) = To d.depth (spot_of d.item)
