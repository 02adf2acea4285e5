-- What comes of a component binary that is printed and encoded again.
use Rattle.std.specs.Prelude.{◌≡◌, ◌≤◌, ℕ, List, length, None}
use Rattle.comp_model.specs.Model.{Scope}
use Rattle.comp_wire.specs.Read.{Reads}
use Rattle.print_table.specs.TextOf.{unnamed}
use Rattle.tree_print.specs.Cause.{cause, Refuses}
use Rattle.wire_read.specs.Answer.{bytes_limit, IsShallow, RefusedAs}
use Rattle.print_again.specs.declared.binary.AgainError.{AgainError}
use Rattle.print_again.specs.declared.binary.AgainError.TheVariants as errors

-- The bytes, within their limit, are read as the component, in which no scope is inside 100 others.
abbrev pub IsOf : Scope → List ℕ → Type 0
IsOf b bytes = (length bytes ≤ bytes_limit) × Reads bytes b × IsShallow b

-- The bytes are read as a component that nothing is against printing, and the new ones as that without its custom sections of names.
abbrev pub IsAgain : List ℕ → List ℕ → Type 0
IsAgain bytes new = (b : Scope) × IsOf b bytes × (cause b ≡ None) × Reads new (unnamed b)

-- Why not: they are read as none; or the component isn't printed; or memory ran out when it was.
abbrev pub RefusesAgain : List ℕ → AgainError → Type 0
RefusesAgain bytes (errors.Read e) = RefusedAs bytes e.kind e.offset
RefusesAgain bytes (errors.Print e) = (b : Scope) × IsOf b bytes × Refuses b e.kind
RefusesAgain bytes errors.NoMemory = (b : Scope) × IsOf b bytes × (cause b ≡ None)
