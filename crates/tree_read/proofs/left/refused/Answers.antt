use Rattle.std.proofs.Common.{subst}
use Rattle.tree_read.proofs.Leaving.{refused_here}
use Rattle.tree_read.proofs.left.refused.Goals as goal
use Rattle.wast_grammar.specs.Read.{FailsAs}

pub returns-clause-refusal : goal.returns-clause-refusal
returns-clause-refusal c = λ o h. subst (λ t. FailsAs c.refusal-refused.result.kind c.refusal-refused.result.offset t o) (refused_here c.args.fault c.args.reader) (c.refusal-refused.ensures c.args.reader o h)
