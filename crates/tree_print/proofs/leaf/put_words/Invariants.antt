use Rattle.std.proofs.Common.{◌≡◌, drop}
use Rattle.tree_print.specs.Taken.{taken, put}
use Rattle.tree_print.specs.Words.{words_tokens}
use Rattle.tree_print.proofs.leaf.put_words.Given as goal

abbrev pub invariant-loop-word : goal.invariant-loop-word
invariant-loop-word l = put (words_tokens (drop l.word-index l.words)) (taken l.printer) ≡ put (words_tokens l.words) (taken l.initial.printer)
