use Rattle.std.proofs.Common.{◌≡◌}
use Rattle.wast_grammar.specs.FieldRows.{core_fields}
use Rattle.wast_grammar.specs.Read.{read, left_of}
use Rattle.wast_parser.proofs.Many.{with_front}
use Rattle.tree_read.specs.FieldParts.{grouped}
use Rattle.tree_read.proofs.fields.more_fields.Given as goal

abbrev pub invariant-fields : goal.invariant-fields
invariant-fields g l = with_front (grouped g.T.ParseView.view) l.fields.items (read core_fields l.reader) ≡ with_front (grouped g.T.ParseView.view) l.fn.fields.items (read core_fields l.fn.reader)

abbrev pub decreases-fields : goal.decreases-fields
decreases-fields g l = left_of l.reader
