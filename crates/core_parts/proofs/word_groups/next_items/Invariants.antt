use Rattle.std.proofs.Common.{◌≡◌, ◌≤◌, ◌∷◌}
use Rattle.wast_grammar.specs.Read.{read, left_of}
use Rattle.wast_parser.proofs.Many.{with_front}
use Rattle.wast_grammar.specs.CoreForms.{next_items}
use Rattle.wast_grammar.specs.CoreRows.{is_value_type}
use Rattle.core_parts.specs.PartViews.{items_behind, next_item_view}
use Rattle.core_parts.proofs.word_groups.next_items.Given as goal

abbrev pub invariant-items : goal.invariant-items
invariant-items g l = record {
  begins : l.items.items ≡ l.fn.first ∷ items_behind l.items.items;
  gives : with_front (next_item_view g.T.GroupItem.view) (items_behind l.items.items) (read (next_items l.word is_value_type g.T.GroupItem.item_row) l.parser) ≡ read (next_items l.word is_value_type g.T.GroupItem.item_row) l.fn.parser;
  text : l.parser.text ≡ l.fn.parser.text;
  forward : l.fn.parser.at ≤ l.parser.at;
}

abbrev pub decreases-items : goal.decreases-items
decreases-items g l = left_of l.parser
