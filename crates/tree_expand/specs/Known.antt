-- The types of a scope that code has passed.
use Rattle.std.specs.Prelude.{◌≡◌, List}
use Rattle.type_keys.specs.Keys.{keys, AllPassed}
use Rattle.type_keys.specs.Shown.{KeysShow}
use Rattle.tree_expand.specs.declared.known.Known.{Known}
use Rattle.tree_expand.specs.Passed.{Noted, types_in, ids_in}
use Rattle.tree_expand.specs.Standing.{ids_of}

-- these, by their keys and with their ids
pub record Shows (a : Known) (xs : List Noted) : Type 0 where
  pub keyed : KeysShow a.types (keys (types_in xs) (types_in xs))
  pub passed : AllPassed (types_in xs) (types_in xs)
  pub ids : ids_of a.ids.items ≡ ids_in xs
