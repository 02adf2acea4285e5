use Rattle.std.proofs.Common.{◌≡◌, ◌≤◌}
use Rattle.wast_grammar.specs.Read.{read, left_of}
use Rattle.wast_grammar.specs.CoreForms.{empty_groups}
use Rattle.core_parts.proofs.word_groups.skip_empty_groups.Given as goal

abbrev pub invariant-groups : goal.invariant-groups
invariant-groups l = record {
  gives : read (empty_groups l.word) l.parser ≡ read (empty_groups l.word) l.fn.parser;
  text : l.parser.text ≡ l.fn.parser.text;
  forward : l.fn.parser.at ≤ l.parser.at;
}

abbrev pub decreases-groups : goal.decreases-groups
decreases-groups l = left_of l.parser
