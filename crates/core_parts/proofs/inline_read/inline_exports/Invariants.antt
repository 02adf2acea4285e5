use Rattle.std.proofs.Common.{◌≡◌, ◌≤◌}
use Rattle.wast_grammar.specs.Read.{read, left_of}
use Rattle.wast_parser.proofs.Many.{with_front}
use Rattle.wast_grammar.specs.CoreRows.{inline_exports}
use Rattle.core_parts.specs.PartViews.{text_view}
use Rattle.core_parts.proofs.inline_read.inline_exports.Given as goal

abbrev pub invariant-names : goal.invariant-names
invariant-names l = record {
  gives : with_front text_view l.names.items (read inline_exports l.parser) ≡ read inline_exports l.fn.parser;
  text : l.parser.text ≡ l.fn.parser.text;
  forward : l.fn.parser.at ≤ l.parser.at;
}

abbrev pub decreases-names : goal.decreases-names
decreases-names l = left_of l.parser
