use Rattle.std.proofs.Common.{refl}
use Rattle.comp_canon.specs.Lines.{lower}
use Rattle.comp_canon.proofs.lift.CanonLowerOfLeaves.rule.Goals as goal

pub returns : goal.returns
returns c = c.built_in.ensures lower refl
