-- What a line of a plan asks for, from left to right, and the refusal where it isn't so.
use Rattle.std.specs.Prelude.{◌≡◌, ℕ, List, [], ◌∷◌, None, Some}
use Rattle.plan_lines.specs.Words.{Word}
use Rattle.plan_lines.specs.Lines.{Argument, Line, a_part, an_instance, an_export}
use Rattle.comp_compose.specs.Meanings.{declared}
use Rattle.comp_compose.specs.Parts.{HasPart}
use Rattle.comp_compose.specs.declared.names.Item.TheVariants as item
use Rattle.comp_compose.specs.declared.error.PlanKind.{PlanKind}
use Rattle.comp_compose.specs.declared.error.PlanKind.TheVariants as kind

pub data Demand : Type 0 where
  -- no earlier line declares the name
  is_new : Word → Demand
  -- an earlier line declares the name, as a part; as an instance
  names_part : Word → Demand
  names_instance : Word → Demand
  -- the digits say the bytes of a component
  has_part : Word → Demand

abbrev pub argument_demands : List Argument → List Demand
argument_demands [] = []
argument_demands (a ∷ as') = names_instance a.instance ∷ argument_demands as'

abbrev pub demands : Line → List Demand
demands (a_part name digits) = is_new name ∷ has_part digits ∷ []
demands (an_instance name part as') = is_new name ∷ names_part part ∷ argument_demands as'
demands (an_export text instance) = names_instance instance ∷ []

-- when it is so, behind these lines
abbrev pub IsMet : List Line → Demand → Type 0
IsMet before (is_new name) = declared before name.bytes ≡ None
IsMet before (names_part name) = (i : ℕ) × (declared before name.bytes ≡ Some (item.Component i))
IsMet before (names_instance name) = (i : ℕ) × (declared before name.bytes ≡ Some (item.Instance i))
IsMet before (has_part digits) = HasPart digits.bytes

-- the refusal where it isn't, and its word
abbrev pub refusal : Demand → PlanKind
refusal (is_new name) = kind.Duplicate
refusal (names_part name) = kind.Unknown
refusal (names_instance name) = kind.Unknown
refusal (has_part digits) = kind.Part

abbrev pub asked_at : Demand → ℕ
asked_at (is_new name) = name.at
asked_at (names_part name) = name.at
asked_at (names_instance name) = name.at
asked_at (has_part digits) = digits.at
