-- What a map of types holds: under each key the number of the first type that has it.
use Rattle.std.specs.Prelude.{◌≡◌, List}
use Rattle.std.specs.BTreeMap.{get}
use Rattle.type_keys.specs.Keys.{Part, first_key}
use Rattle.type_keys.specs.Order.{order}
use Rattle.type_keys.specs.PartsOf.{parts_of}
use Rattle.type_keys.specs.declared.key.TypeKey.{TypeKey}
use Rattle.type_keys.specs.declared.types.Types.{Types}

-- a map finds each key as these do
abbrev pub KeysShow : Types → List (List Part) → Type 0
KeysShow a ks = (k : TypeKey) → get order a.by_key k ≡ first_key (parts_of k) ks
