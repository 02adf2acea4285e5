-- The items of a scope by space and index, as code has them: parts of definitions in a row, one behind the other.
use Rattle.std.specs.Prelude.{◌≡◌, ℕ, zero, suc, ◌+◌, ◌-◌, ◌<◌, ◌≤◌, ◌^◌, List, [], ◌∷◌, ◌++◌, length, map, filter, get_or, cond}
use Rattle.comp_model.specs.declared.Space.{Space}
use Rattle.comp_model.specs.Model.{Defs}
use Rattle.comp_model.specs.Spaces.{code_of_space, same_space, parts, items_from}
use Rattle.comp_list.specs.declared.line.Spot.{Spot}
use Rattle.comp_list.specs.declared.spots.Parts.{Parts}
use Rattle.comp_list.specs.Listing.{spot_of}

-- so many parts of definition k, the first of which has number p
abbrev pub part_spots : ℕ → ℕ → ℕ → List Spot
part_spots k p zero = []
part_spots k p (suc n) = record { def = k; part = p } ∷ part_spots k (p + 1) n

abbrev pub spots_in : List Parts → List Spot
spots_in [] = []
spots_in (r ∷ rs) = part_spots r.def r.part (r.end - r.first) ++ spots_in rs

-- each of these parts begins where the one in front ends, the first at b, and has an item
abbrev pub IsChain : ℕ → List Parts → Type 0
IsChain b [] = Unit {0}
IsChain b (r ∷ rs) = (r.first ≡ b) × (b < r.end) × (r.end < 2 ^ 64) × (r.part + (r.end - r.first) < 2 ^ 32) × IsChain r.end rs

abbrev pub no_parts : Parts
no_parts = record { first = 0; end = 0; def = 0; part = 0 }

abbrev pub end_of : List Parts → ℕ → ℕ
end_of rs k = (get_or rs k no_parts).end

abbrev pub ends_before : List Parts → ℕ → ℕ → Type 0
ends_before rs i k = end_of rs k ≤ i

abbrev pub EachChain : List (List Parts) → Type 0
EachChain [] = Unit {0}
EachChain (c ∷ cs) = IsChain 0 c × EachChain cs

-- one chain for each space
abbrev pub AreChains : List (List Parts) → Type 0
AreChains cs = (length cs ≡ 13) × EachChain cs

-- the items of each
abbrev pub chain_spots : List (List Parts) → List (List Spot)
chain_spots cs = map spots_in cs

-- the items of a space
abbrev pub spots_of : List (List Spot) → Space → List Spot
spots_of cs s = get_or cs (code_of_space s) []

-- what so many parts of a definition that declare in one space add to the items of another
abbrev pub add_spots : Space → Space → ℕ → ℕ → ℕ → List Spot
add_spots s space k p n = cond (same_space s space) (part_spots k p n) []

-- the items of a space that definition k declares by parts of these spaces, the first of which has number p
abbrev pub def_spots : Space → ℕ → ℕ → List Space → List Spot
def_spots s k p ss = map spot_of (filter (λ d. same_space s d.space) (parts k p [] ss))

-- of no space are there more items than so many
abbrev pub AreWithin : List (List Spot) → ℕ → Type 0
AreWithin cs n = (s : Space) → length (spots_of cs s) ≤ n

-- the items of the definitions are these
abbrev pub HasSpots : List (List Spot) → Defs → Type 0
HasSpots cs ds = (s : Space) → spots_of cs s ≡ map spot_of (items_from s 0 ds)
