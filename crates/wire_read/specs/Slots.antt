-- The leaves of a row while they are read.
use Rattle.std.specs.Prelude.{ℕ, zero, suc, ◌+◌, nat_le, nat_lt, ◌&&◌, List, [], ◌∷◌, if◌then◌else◌}
use Rattle.comp_model.specs.Model as m
use Rattle.wire_tree.specs.Lists.{listed}
use Rattle.wire_tree.specs.declared.tree.Leaf.{Leaf}
use Rattle.wire_tree.specs.declared.tree.Leaf as l
use Rattle.wire_read.specs.declared.slots.Slots.{Slots}

abbrev pub no_slots : Slots
no_slots = record { first = l.Absent; second = l.Absent; third = l.Absent; count = 0 }

-- all places
abbrev pub all_slots : Slots → List Leaf
all_slots s = s.first ∷ s.second ∷ s.third ∷ []

-- the places that were put, and those in front of them
abbrev pub first_of : ℕ → Slots → List Leaf
first_of zero s = []
first_of (suc zero) s = s.first ∷ []
first_of (suc (suc zero)) s = s.first ∷ s.second ∷ []
first_of (suc (suc (suc n))) s = s.first ∷ s.second ∷ s.third ∷ []

abbrev pub kept : Slots → List Leaf
kept s = first_of s.count s

-- how many there are with one at a place
abbrev pub counted : ℕ → ℕ → ℕ
counted n at = if nat_le n at && nat_lt at 3 then at + 1 else n

-- a leaf at a place
abbrev pub put : Slots → ℕ → Leaf → Slots
put s zero x = record { first = x; second = s.second; third = s.third; count = counted s.count 0 }
put s (suc zero) x = record { first = s.first; second = x; third = s.third; count = counted s.count 1 }
put s (suc (suc zero)) x = record { first = s.first; second = s.second; third = x; count = counted s.count 2 }
put s (suc (suc (suc n))) x = s

-- the leaves of the model
abbrev pub slot_leaves : Slots → m.Leaves
slot_leaves s = listed (all_slots s)
