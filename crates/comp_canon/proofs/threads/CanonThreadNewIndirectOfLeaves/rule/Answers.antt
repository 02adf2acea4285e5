use Rattle.std.proofs.Common.{refl}
use Rattle.comp_canon.specs.Lines.{thread_new_indirect}
use Rattle.comp_canon.proofs.threads.CanonThreadNewIndirectOfLeaves.rule.Goals as goal

pub returns : goal.returns
returns c = c.built_in.ensures thread_new_indirect refl
