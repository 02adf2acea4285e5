use Rattle.wast_grammar.specs.Read.{left_of}
use Rattle.tree_read.specs.Paths.{TextsSoFar}
use Rattle.tree_read.proofs.path.read_texts.Given as goal

abbrev pub invariant-texts : goal.invariant-texts
invariant-texts l = TextsSoFar l.fn.reader l.reader l.fn.names.items l.names.items

abbrev pub decreases-texts : goal.decreases-texts
decreases-texts l = left_of l.reader
