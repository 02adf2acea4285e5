-- What a writer holds: the definitions so far, some of them in closed sections.
use Rattle.std.specs.Prelude.{◌≡◌, List, ◌++◌}
use Rattle.comp_wire.specs.Sections.{Item, groups, sections, preamble}
use Rattle.comp_wire.specs.Sink.{Holds}
use Rattle.comp_compose.specs.declared.writer.Writer.{Writer}

-- Definitions in front stand in closed sections, which those behind them don't go on, and the sink holds those behind.
pub record Writes (writer : Writer) (items : List Item) : Type 0 where
  pub front : List Item
  pub back : List Item
  pub all : items ≡ front ++ back
  pub done : writer.done.items ≡ preamble ++ sections (groups front)
  pub held : Holds writer.run back
  pub apart : (more : List Item) → groups (front ++ more) ≡ groups front ++ groups more
