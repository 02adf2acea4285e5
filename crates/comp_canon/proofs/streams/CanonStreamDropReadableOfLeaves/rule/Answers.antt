use Rattle.std.proofs.Common.{refl}
use Rattle.comp_canon.specs.Lines.{stream_drop_readable}
use Rattle.comp_canon.proofs.streams.CanonStreamDropReadableOfLeaves.rule.Goals as goal

pub returns : goal.returns
returns c = c.built_in.ensures stream_drop_readable refl
