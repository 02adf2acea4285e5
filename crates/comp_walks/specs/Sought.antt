-- The first form that is read and never written, as far as a visitor was told.
use Rattle.std.specs.Prelude.{ℕ, Bool, true, false, Option, Some, None}
use Rattle.comp_model.specs.CoreModules.{CoreModule}
use Rattle.comp_model.specs.Model as m
use Rattle.comp_model.specs.Model.{Leaf}
use Rattle.comp_model.specs.Covered.{Uncovered, form_of_row, form_of_value, lower_of}
use Rattle.comp_model.specs.Events.{Event, leaf, row_of, ended}
use Rattle.wast_tokens.specs.declared.error.FormKind.{FormKind}
use Rattle.wast_tokens.specs.declared.error.FormKind.TheVariants.{U1, U2, U3, U4, U5, U6, U7}
use Rattle.comp_walks.specs.declared.uncovered.Uncovered as found

-- none so far; the lowest that the definition around it holds itself; or what stands in something that this definition holds
pub data Sought : Type 0 where
  nothing : Sought
  own : ℕ → Sought
  inner : Uncovered → Sought

-- of the lowest form in parts, and of the first that is held in them
abbrev pub sought : Option ℕ → Option Uncovered → Sought
sought (Some n) u = own n
sought None (Some u) = inner u
sought None None = nothing

-- the number of a form, where it is there
abbrev pub least : ℕ → Option ℕ → Sought
least n None = own n
least n (Some k) = sought (lower_of (Some n) (Some k)) None

-- one more part of the same definition: what the definition holds itself stands before what is held in it
abbrev pub and_then : Sought → Option ℕ → Option Uncovered → Sought
and_then nothing f u = sought f u
and_then (own n) f u = least n f
and_then (inner v) None u = inner v
and_then (inner v) (Some n) u = own n

-- the definition at that offset ends
abbrev pub settled : ℕ → Sought → Sought
settled o (own n) = inner (record { row = n; offset = o })
settled o s = s

-- what is told; where core modules hold such forms is given
module _ (core_uncovered : CoreModule → Option Uncovered) where
  abbrev pub sought_leaf : Sought → Leaf → Sought
  sought_leaf s (m.core_value v) = and_then s (form_of_value v) None
  sought_leaf s (m.core_source c) = and_then s None (core_uncovered c)
  sought_leaf s _ = s

  abbrev pub sought_step : Sought → Event → Sought
  sought_step s (leaf l) = sought_leaf s l
  sought_step s (row_of t) = and_then s (form_of_row t) None
  sought_step s (ended o) = settled o s
  sought_step s _ = s

-- a further definition is asked for while there is none
abbrev pub is_nothing : Sought → Bool
is_nothing nothing = true
is_nothing _ = false

-- what was found, behind all definitions
abbrev pub answer : Sought → Option Uncovered
answer (inner u) = Some u
answer _ = None

-- the forms as code names them
abbrev pub form_number : FormKind → ℕ
form_number U1 = 1
form_number U2 = 2
form_number U3 = 3
form_number U4 = 4
form_number U5 = 5
form_number U6 = 6
form_number U7 = 7

abbrev pub uncovered_of : found.Uncovered → Uncovered
uncovered_of u = record { row = form_number u.form; offset = u.offset }
