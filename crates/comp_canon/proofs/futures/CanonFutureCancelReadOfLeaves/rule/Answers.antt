use Rattle.std.proofs.Common.{refl}
use Rattle.comp_canon.specs.Lines.{future_cancel_read}
use Rattle.comp_canon.proofs.futures.CanonFutureCancelReadOfLeaves.rule.Goals as goal

pub returns : goal.returns
returns c = c.built_in.ensures future_cancel_read refl
