use Rattle.std.proofs.Common.{refl}
use Rattle.comp_canon.specs.Lines.{waitable_set_poll}
use Rattle.comp_canon.proofs.waitables.CanonWaitableSetPollOfLeaves.rule.Goals as goal

pub returns : goal.returns
returns c = c.built_in.ensures waitable_set_poll refl
