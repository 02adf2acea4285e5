use Rattle.std.proofs.Common.{refl}
use Rattle.comp_canon.specs.Lines.{stream_write}
use Rattle.comp_canon.proofs.streams.CanonStreamWriteOfLeaves.rule.Goals as goal

pub returns : goal.returns
returns c = c.built_in.ensures stream_write refl
