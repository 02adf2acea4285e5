use Rattle.std.proofs.Common.{◌≡◌, ◌≤◌}
use Rattle.wast_grammar.specs.Read.{read, left_of}
use Rattle.wast_grammar.specs.CoreRows.{instructions}
use Rattle.core_syntax.proofs.Folding.{SoFar}
use Rattle.core_syntax.proofs.expression_read.instructions_into.Given as goal

abbrev pub invariant-turns : goal.invariant-turns
invariant-turns l = record {
  gives : SoFar l.instrs.items l.begun.items l.parser (read instructions l.fn.parser);
  text : l.parser.text ≡ l.fn.parser.text;
  forward : l.fn.parser.at ≤ l.parser.at;
}

abbrev pub decreases-turns : goal.decreases-turns
decreases-turns l = left_of l.parser
