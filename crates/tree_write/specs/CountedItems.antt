-- How many items of each space there are.
use Rattle.std.specs.Prelude.{ℕ, ◌+◌, ◌*◌, ◌-◌, ◌^◌, List, get_or}
use Rattle.comp_model.specs.declared.Space.{Space}
use Rattle.comp_model.specs.Spaces.{code_of_space}
use Rattle.tree_write.specs.declared.space_counts.Items.{Items}

-- a count of items
abbrev pub items_in : Items → ℕ
items_in n = n.high * 2 ^ 64 + n.low

abbrev pub no_items : Items
no_items = record { high = 0; low = 0 }

-- the count of a space, among those by the numbers of spaces
abbrev pub count_of : Space → List Items → ℕ
count_of s counts = items_in (get_or counts (code_of_space s) no_items)

-- what a definition declares at most: lists of leaves that are lists; and so many definitions
abbrev pub most_of_def : ℕ
most_of_def = (2 ^ 64 - 1) * (2 ^ 64 - 1)

abbrev pub most_items : ℕ
most_items = (2 ^ 64 - 1) * ((2 ^ 64 - 1) * (2 ^ 64 - 1))
