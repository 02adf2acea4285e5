-- A name with a space and an index, as an entry of a list of this row.
use Rattle.std.specs.Prelude.{ℕ}
use Rattle.std.specs.Borrow.{Bor}
use Rattle.comp_model.specs.declared.Space.{Space}
use Rattle.comp_model.specs.declared.row.Row.{Row}
use Rattle.comp_model.specs.Core.{Text}
use Rattle.comp_model.specs.Model as m
use Rattle.comp_model.specs.Model.{Node, no_leaf, ◌▸◌}

abbrev pub named_row : Row → Bor Text × Space × ℕ → Node
named_row r p = m.row r (m.text p.0.now ▸ m.ref p.1 (m.index p.2) ▸ no_leaf)
