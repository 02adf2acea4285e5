use Rattle.std.proofs.Common.{refl}
use Rattle.comp_canon.specs.Lines.{waitable_set_wait}
use Rattle.comp_canon.proofs.waitables.CanonWaitableSetWaitOfLeaves.rule.Goals as goal

pub returns : goal.returns
returns c = c.built_in.ensures waitable_set_wait refl
