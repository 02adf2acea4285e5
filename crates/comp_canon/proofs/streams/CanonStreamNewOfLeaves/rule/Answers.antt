use Rattle.std.proofs.Common.{refl}
use Rattle.comp_canon.specs.Lines.{stream_new}
use Rattle.comp_canon.proofs.streams.CanonStreamNewOfLeaves.rule.Goals as goal

pub returns : goal.returns
returns c = c.built_in.ensures stream_new refl
