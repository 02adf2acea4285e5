-- The lines of the scopes in a row.
use Rattle.std.specs.Prelude.{ℕ, List}
use Rattle.comp_model.specs.Model.{Node, row, Defs}
use Rattle.comp_list.specs.declared.line.Line.{Line}
use Rattle.comp_list.specs.Listing.{leaves_lines}

abbrev pub row_lines : Node → ℕ → List Defs → List Line
row_lines (row t ls) level out = leaves_lines ls level out
