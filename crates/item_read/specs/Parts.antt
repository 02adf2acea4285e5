-- The leaves of a row, by how many they are.
use Rattle.std.specs.Prelude.{◌≡◌, ℕ, zero, suc}
use Rattle.comp_model.specs.Model as m
use Rattle.comp_model.specs.Model.{Leaf, Leaves, no_leaf, ◌▸◌}

abbrev pub count : Leaves → ℕ
count no_leaf = 0
count (l ▸ ls) = suc (count ls)

-- the leaf at a place
abbrev pub at : ℕ → Leaves → Leaf
at n no_leaf = m.absent
at zero (l ▸ ls) = l
at (suc n) (l ▸ ls) = at n ls

-- the last leaf
abbrev pub last_behind : Leaf → Leaves → Leaf
last_behind l no_leaf = l
last_behind l (k ▸ ls) = last_behind k ls

abbrev pub last : Leaves → Leaf
last no_leaf = m.absent
last (l ▸ ls) = last_behind l ls

abbrev pub Nothing : Leaves → Type 0
Nothing ls = ls ≡ no_leaf

abbrev pub One : (Leaf → Type 0) → Leaves → Type 0
One P ls = (count ls ≡ 1) × P (at 0 ls)

abbrev pub Two : (Leaf → Type 0) → (Leaf → Type 0) → Leaves → Type 0
Two P Q ls = (count ls ≡ 2) × P (at 0 ls) × Q (at 1 ls)

abbrev pub Three : (Leaf → Type 0) → (Leaf → Type 0) → (Leaf → Type 0) → Leaves → Type 0
Three P Q R ls = (count ls ≡ 3) × P (at 0 ls) × Q (at 1 ls) × R (at 2 ls)
