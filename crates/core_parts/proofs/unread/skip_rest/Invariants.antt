use Rattle.std.proofs.Common.{◌≡◌, ◌≤◌}
use Rattle.wast_grammar.specs.Read.{skip_rest, left_of}
use Rattle.wast_grammar.proofs.Skipping.{skip_from}
use Rattle.core_parts.proofs.unread.skip_rest.Given as goal

abbrev pub invariant-tokens : goal.invariant-tokens
invariant-tokens l = record {
  gives : skip_from l.count l.parser ≡ skip_rest l.fn.parser;
  few : l.count ≤ l.parser.at;
  text : l.parser.text ≡ l.fn.parser.text;
  forward : l.fn.parser.at ≤ l.parser.at;
}

abbrev pub decreases-tokens : goal.decreases-tokens
decreases-tokens l = left_of l.parser
