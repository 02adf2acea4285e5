use Rattle.std.proofs.Common.{refl}
use Rattle.comp_canon.specs.Lines.{future_new}
use Rattle.comp_canon.proofs.futures.CanonFutureNewOfLeaves.rule.Goals as goal

pub returns : goal.returns
returns c = c.built_in.ensures future_new refl
