-- What the names of the items of a list of definitions come to, space by space.
use Rattle.std.specs.Prelude.{◌≡◌, ℕ, ◌-◌, ◌^◌, min, List, [], ◌∷◌, ◌++◌, length, get_or}
use Rattle.comp_model.specs.declared.Space.{Space}
use Rattle.comp_model.specs.NameMaps.{ItemName}
use Rattle.comp_model.specs.Payloads.{item_name_bytes, map_bytes}
use Rattle.comp_model.specs.Spaces.{code_of_space}
use Rattle.tree_write.specs.Measured.{Counts}
use Rattle.tree_write.specs.declared.name_lengths.SpaceSum.{SpaceSum}

abbrev pub no_sum : SpaceSum
no_sum = record { named = 0; bytes = 0 }

-- the sum of a space, among those by the numbers of spaces
abbrev pub sum_at : Space → List SpaceSum → SpaceSum
sum_at s sums = get_or sums (code_of_space s) no_sum

-- a sum tells how many these names are, and how many bytes they have
abbrev pub Tells : SpaceSum → List ItemName → Type 0
Tells sum ns = (sum.named ≡ min (length ns) (2 ^ 64 - 1)) × Counts sum.bytes (item_name_bytes ns)

-- the bytes of the maps of these spaces, by the names of each
abbrev pub maps_for : (Space → List ItemName) → List Space → List ℕ
maps_for f [] = []
maps_for f (s ∷ ss) = map_bytes s (f s) ++ maps_for f ss
