use Rattle.std.proofs.Common.{refl}
use Rattle.comp_canon.specs.Lines.{subtask_cancel}
use Rattle.comp_canon.proofs.tasks.CanonSubtaskCancelOfLeaves.rule.Goals as goal

pub returns : goal.returns
returns c = c.built_in.ensures subtask_cancel refl
