use Rattle.std.proofs.Common.{refl}
use Rattle.comp_canon.specs.Lines.{resource_new}
use Rattle.comp_canon.proofs.resources.CanonResourceNewOfLeaves.rule.Goals as goal

pub returns : goal.returns
returns c = c.built_in.ensures resource_new refl
