use Rattle.std.proofs.Common.{◌≡◌, ◌≤◌}
use Rattle.wast_grammar.specs.Grammar.{going, many}
use Rattle.wast_grammar.specs.Read.{read, left_of}
use Rattle.wast_parser.proofs.Many.{with_front}
use Rattle.core_parts.proofs.lists.items_to_end.Given as goal

abbrev pub invariant-items : goal.invariant-items
invariant-items g l = record {
  gives : with_front g.T.GroupItem.view l.items.items (read (many going g.T.GroupItem.item_row) l.parser) ≡ read (many going g.T.GroupItem.item_row) l.fn.parser;
  text : l.parser.text ≡ l.fn.parser.text;
  forward : l.fn.parser.at ≤ l.parser.at;
}

abbrev pub decreases-items : goal.decreases-items
decreases-items g l = left_of l.parser
