-- Items of generated ids, in slots by their numbers.
use Rattle.std.specs.Prelude.{ℕ, ◌-◌, cond, nat_eq, nat_lt, List, get_or, Option, Some, None}
use Rattle.open_scopes.specs.declared.registry.Item.{Item}
use Rattle.open_scopes.specs.declared.numbered.Slot.{Slot}
use Rattle.open_scopes.specs.declared.numbered.Numbered.{Numbered}

-- what stands in a slot, if it is an item of the space of that number
abbrev pub in_slot : Option Slot → ℕ → Option Item
in_slot None c = None
in_slot (Some t) c = cond (nat_eq t.space c) (Some t.item) None

abbrev pub slot_at : List (Option Slot) → ℕ → ℕ → Option Item
slot_at slots i c = in_slot (get_or slots i None) c

-- the item of the space c whose id has the number n
abbrev pub numbered_at : Numbered → ℕ → ℕ → Option Item
numbered_at b c n = cond (nat_lt n b.first) None (slot_at b.slots.items (n - b.first) c)
