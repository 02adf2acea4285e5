use Rattle.std.proofs.Common.{refl}
use Rattle.comp_canon.specs.Lines.{resource_drop}
use Rattle.comp_canon.proofs.resources.CanonResourceDropOfLeaves.rule.Goals as goal

pub returns : goal.returns
returns c = c.built_in.ensures resource_drop refl
