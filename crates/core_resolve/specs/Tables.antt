-- What a table of types holds.
use Rattle.std.specs.Prelude.{List, ◌++◌, map, flat_map, Option, Some}
use Rattle.comp_model.specs.declared.Space.TheVariants.{CoreType}
use Rattle.comp_model.specs.Core.{Id}
use Rattle.comp_model.specs.CoreModules.{Field}
use Rattle.core_model.specs.Items.{items_in}
use Rattle.core_model.specs.Types.{Signature, written_type, uses_of, needed, added}

-- the types that fields define, in order, with names among these ids
abbrev pub written_in : List (Option Id) → List Field → List (Option Signature)
written_in ids fs = map (written_type ids) (items_in CoreType fs)

-- what the type uses of fields need
abbrev pub needed_in : List (Option Id) → List Field → List Signature
needed_in ids fs = flat_map (needed ids) (flat_map uses_of fs)

-- some types, and behind them those that are needed beyond them
abbrev pub with_needed : List (Option Signature) → List Signature → List (Option Signature)
with_needed ts ss = ts ++ map Some (added ts ss)
