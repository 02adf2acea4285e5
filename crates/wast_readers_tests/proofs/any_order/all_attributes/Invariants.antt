use Rattle.std.proofs.Common.{◌≡◌, ◌≤◌}
use Rattle.wast_grammar.specs.Read.{read, left_of}
use Rattle.wast_grammar.specs.Grammar.{num}
use Rattle.wast_grammar.proofs.ThreeParts.{SoFar}
use Rattle.wast_readers_tests.specs.Rows.{attributes, align, offset, page}
use Rattle.wast_readers_tests.proofs.any_order.all_attributes.Given as goal

abbrev pub invariant-parts : goal.invariant-parts
invariant-parts l = record {
  gives : SoFar align offset page num l.align l.offset l.page l.parser (read attributes l.fn.parser);
  text : l.parser.text ≡ l.fn.parser.text;
  forward : l.fn.parser.at ≤ l.parser.at;
}

abbrev pub decreases-parts : goal.decreases-parts
decreases-parts l = left_of l.parser
