use Rattle.std.proofs.Common.{◌≡◌, ◌≤◌}
use Rattle.wast_grammar.specs.Read.{skip_rest, left_of}
use Rattle.wast_grammar.proofs.Skipping.{skip_from}
use Rattle.tree_read.proofs.skip.skip_rest.Given as goal

abbrev pub invariant-tokens : goal.invariant-tokens
invariant-tokens l = record {
  gives : skip_from l.count l.reader ≡ skip_rest l.fn.reader;
  few : l.count ≤ l.reader.at;
}

abbrev pub decreases-tokens : goal.decreases-tokens
decreases-tokens l = left_of l.reader
