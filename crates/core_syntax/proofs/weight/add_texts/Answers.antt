use Rattle.std.proofs.Common.{◌+◌, length}
use Rattle.core_syntax.proofs.Turns.{all-weighed}
use Rattle.core_syntax.proofs.weight.add_texts.Goals as goal

pub returns : goal.returns
returns c = all-weighed (λ x. 32 + length x) (λ x. x.now) c.args.texts.now c.loop-text.text-index c.loop-text.total _ c.loop-text-test.false c.loop-text.invariant.within c.loop-text.invariant.sum
