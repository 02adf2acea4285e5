use Rattle.std.proofs.Common.{refl}
use Rattle.comp_canon.specs.Lines.{resource_rep}
use Rattle.comp_canon.proofs.resources.CanonResourceRepOfLeaves.rule.Goals as goal

pub returns : goal.returns
returns c = c.built_in.ensures resource_rep refl
