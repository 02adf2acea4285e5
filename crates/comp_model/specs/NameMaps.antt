-- The names that a name section holds (Component Model binary format, "Name Section").
use Rattle.std.specs.Prelude.{ℕ, List, Option}
use Rattle.comp_model.specs.declared.Space.{Space}
use Rattle.comp_model.specs.Core.{Text}

-- the name of one item, by its index in the space
pub record ItemName : Type 0 where
  pub index : ℕ
  pub name : Text

-- the names of one space, ascending by index
pub record NameMap : Type 0 where
  pub space : Space
  pub names : List ItemName

-- the component's own name, and the names of each space that has one
pub record NameMaps : Type 0 where
  pub component : Option Text
  pub maps : List NameMap
