use Rattle.std.proofs.Common.{refl}
use Rattle.comp_canon.specs.Lines.{future_drop_writable}
use Rattle.comp_canon.proofs.futures.CanonFutureDropWritableOfLeaves.rule.Goals as goal

pub returns : goal.returns
returns c = c.built_in.ensures future_drop_writable refl
