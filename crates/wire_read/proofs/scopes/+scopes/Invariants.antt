use Rattle.std.proofs.Common.{◌≡◌, true, ◌+◌, ◌*◌}
use Rattle.byte_table.specs.Lines.{family_of}
use Rattle.wire_read.specs.Nodes.{is_closed}
use Rattle.wire_read.proofs.RowLoops.{SoFar}
use Rattle.wire_read.proofs.scopes.+scopes.Given as goal

abbrev pub decreases-read_type_scope : goal.decreases-read_type_scope
decreases-read_type_scope l = l.left * 4

abbrev pub decreases-read_type : goal.decreases-read_type
decreases-read_type l = l.left * 4 + 1

abbrev pub decreases-read_item : goal.decreases-read_item
decreases-read_item l = l.left * 4 + 2

abbrev pub decreases-read_items : goal.decreases-read_items
decreases-read_items l = l.left * 4 + 3

abbrev pub invariant-read_items-loop : goal.invariant-read_items-loop
invariant-read_items-loop l = is_closed (family_of l.fn.family) ≡ true → SoFar (family_of l.fn.family) l.left l.count l.counter l.initial.input l.input l.rows.items
