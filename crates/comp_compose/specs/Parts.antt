-- Which bytes are a part.
use Rattle.std.specs.Prelude.{◌≡◌, ℕ, ◌≤◌, List, length, Ok}
use Rattle.hex.specs.Hex.{decode_of}
use Rattle.comp_model.specs.Model.{Scope}
use Rattle.comp_wire.specs.Read.{Reads}
use Rattle.wire_read.specs.Answer.{bytes_limit, IsShallow}

-- The bytes are read as this component, are no more than are read, and no scope in it is inside 100 others.
pub record IsPart (bytes : List ℕ) (component : Scope) : Type 0 where
  pub small : length bytes ≤ bytes_limit
  pub reads : Reads bytes component
  pub shallow : IsShallow component

-- Hexadecimal digits say such bytes; an odd number of digits says none.
pub record HasPart (digits : List ℕ) : Type 0 where
  pub bytes : List ℕ
  pub component : Scope
  pub decoded : decode_of digits ≡ Ok bytes
  pub part : IsPart bytes component
