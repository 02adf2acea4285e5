-- The order in which code keeps keys.
use Rattle.std.specs.declared.cmp.Ordering.{Ordering}
use Rattle.type_keys.specs.declared.key.TypeKey.{TypeKey}
use Rattle.type_keys.specs.contracts.key.TypeKeyOrd.TheImpl as key_ord

-- the derived one
abbrev pub order : TypeKey → TypeKey → Ordering
order = (key_ord.ghosts).cmp
