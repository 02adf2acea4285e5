use Rattle.std.proofs.Common.{arith}
use Rattle.std.proofs.lemmas.Str.{IsCharBoundary-after_ascii}
use Rattle.wast_tokens.proofs.values.annotation_name.Goals as goal

pub range_from-requires : goal.range_from-requires
range_from-requires c _ = let s = c.requires.spelled in IsCharBoundary-after_ascii c.args.annotation.now 1 c.utf8.annotation (omega (arith, s.some)) (omega (arith, s.marked))
