-- Which items have an index, by a table.
use Rattle.std.specs.Prelude.{◌≡◌, ◌<◌, ◌^◌, ℕ, ◌+◌, length, List, [], ◌∷◌, reverse, Some, slice_get, slice_index, IsSomeAnd, ⊤}
use Rattle.comp_model.specs.declared.Space.{Space}
use Rattle.comp_model.specs.Core.{Id}
use Rattle.open_scopes.specs.declared.registry.Item.{Item}
use Rattle.open_scopes.specs.declared.scopes.Open.{Open}
use Rattle.open_scopes.specs.declared.lookup.Found.{Found}
use Rattle.open_scopes.specs.declared.registry.Registry.{Registry}
use Rattle.open_scopes.specs.Registered.{found_in}

-- the index of an item: that of the first of its definition, by the table, and as many more as stand before it there
abbrev pub index_by : List ℕ → Item → ℕ
index_by table i = slice_index table i.definition + i.part

-- an item stands in the table, and its index is one of 32 bits
abbrev pub IsInTable : List ℕ → Item → Type 0
IsInTable table i = (i.definition < length table) × (index_by table i < 2 ^ 32)

-- each item does
abbrev pub AreIndexed : Registry → List ℕ → Type 0
AreIndexed r table = (s : Space) (x : Id) (i : Item) → found_in r s x ≡ Some i → IsInTable table i

-- each item of each scope does, in the table of its scope
abbrev pub AllIndexed : List Open → Type 0
AllIndexed [] = ⊤
AllIndexed (o ∷ os) = AreIndexed o.names o.table.items × AllIndexed os

-- of open scopes, the innermost of which stands last
abbrev pub OpenIndexed : List Open → Type 0
OpenIndexed scopes = AllIndexed (reverse scopes)

-- what was found stands in an open scope, and in its table
abbrev pub IsIndexed : List Open → Found → Type 0
IsIndexed scopes f = IsSomeAnd (slice_get (reverse scopes) f.depth) (λ o. IsInTable o.table.items f.item)
