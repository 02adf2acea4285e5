-- What a registry holds: for each id of a space the item that bears it.
use Rattle.std.specs.Prelude.{◌≡◌, ℕ, cond, nat_eq, List, length, Option, None, option_map}
use Rattle.std.specs.declared.cmp.Ordering.{Ordering}
use Rattle.std.specs.Ordering.{is_eq, nat_cmp, ordering_then}
use Rattle.std.specs.Cmp.Lexicographic.{slice_cmp}
use Rattle.std.specs.Map.{lookup}
use denote.Bor.{Bor}
use Rattle.comp_model.specs.declared.Space.{Space}
use Rattle.comp_model.specs.Core.{Text, Id}
use Rattle.comp_model.specs.Spaces.{code_of_space, Declaration}
use Rattle.name_ends.specs.Endings.{ending}
use Rattle.comp_tables.specs.Tables as tables
use Rattle.comp_scopes.specs.Names.{first_of_two}
use Rattle.open_scopes.specs.declared.registry.Item.{Item}
use Rattle.open_scopes.specs.declared.registry.Registry.{Registry}
use Rattle.open_scopes.specs.Numbered.{numbered_at}

-- the end of a name, the number of a space, that of an id, and the name
abbrev pub Key : Type 0
Key = (ℕ × ℕ) × (ℕ × Bor Text)

abbrev pub key_cmp : Key → Key → Ordering
key_cmp a b = ordering_then (ordering_then (nat_cmp a.0.0 b.0.0) (nat_cmp a.0.1 b.0.1)) (ordering_then (nat_cmp a.1.0 b.1.0) (slice_cmp nat_cmp a.1.1.now b.1.1.now))

-- the key of the items of a space that bear an id
pub record IsKey (k : Key) (s : Space) (x : Id) : Type 0 where
  pub end : k.0.0 ≡ ending x.name
  pub space : k.0.1 ≡ code_of_space s
  pub number : k.1.0 ≡ x.number
  pub name : k.1.1.now ≡ x.name

-- items by their keys
abbrev pub ItemEntries : Type 0
ItemEntries = List (Key × Item)

abbrev pub item_at : ItemEntries → Key → Option Item
item_at items k = lookup (λ q. is_eq (key_cmp k q)) items

-- the item under the key of the space and the id
abbrev pub item_among : ItemEntries → Space → Id → Option Item
item_among items s x = item_at items ((ending x.name, code_of_space s), (x.number, record { ref_ptr = (0, 0); now = x.name }))

-- the item that a registry has for an id without a name, in the slot of its number
abbrev pub numbered_in : Registry → Space → Id → Option Item
numbered_in r s x = cond (nat_eq (length x.name) 0) (numbered_at r.numbered (code_of_space s) x.number) None

-- the item of the space that bears the id
abbrev pub found_in : Registry → Space → Id → Option Item
found_in r s x = first_of_two (numbered_in r s x) (item_among r.items.entries s x)

-- the item of a declaration
abbrev pub item_of : Declaration → Item
item_of d = record { definition = d.definition; part = d.part }

-- a registry of code finds what a registry of the model does
abbrev pub Registers : Registry → tables.Registry → Type 0
Registers r m = (s : Space) (x : Id) → found_in r s x ≡ option_map item_of (m s x)
