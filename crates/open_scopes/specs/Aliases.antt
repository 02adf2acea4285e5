-- What a map of outer aliases holds: for each item of a space the index of its alias.
use Rattle.std.specs.Prelude.{◌≡◌, ℕ, List, Option}
use Rattle.std.specs.declared.cmp.Ordering.{Ordering}
use Rattle.std.specs.Ordering.{is_eq, nat_cmp, ordering_then}
use Rattle.std.specs.Map.{lookup}
use Rattle.comp_model.specs.declared.Space.{Space}
use Rattle.comp_model.specs.Spaces.{code_of_space}
use Rattle.comp_scopes.specs.Names.{Denoted}
use Rattle.comp_tables.specs.Tables.{Aliased, alias_of}
use Rattle.open_scopes.specs.declared.aliases.Aliases.{Aliases}

-- the depth and the definition of an item, its part, and the number of its space
abbrev pub AliasKey : Type 0
AliasKey = (ℕ × ℕ) × (ℕ × ℕ)

abbrev pub alias_cmp : AliasKey → AliasKey → Ordering
alias_cmp a b = ordering_then (ordering_then (nat_cmp a.0.0 b.0.0) (nat_cmp a.0.1 b.0.1)) (ordering_then (nat_cmp a.1.0 b.1.0) (nat_cmp a.1.1 b.1.1))

abbrev pub item_key : Space → Denoted → AliasKey
item_key s d = ((d.depth, d.item.definition), (d.item.part, code_of_space s))

abbrev pub IsAliasKey : AliasKey → Space → Denoted → Type 0
IsAliasKey k s d = k ≡ item_key s d

-- the index under a key
abbrev pub index_under : List (AliasKey × ℕ) → AliasKey → Option ℕ
index_under entries k = lookup (λ q. is_eq (alias_cmp k q)) entries

-- a map finds the alias of each item as these do
abbrev pub AliasesShow : Aliases → List Aliased → Type 0
AliasesShow a xs = (s : Space) (d : Denoted) → index_under a.by_item.entries (item_key s d) ≡ alias_of s d xs
