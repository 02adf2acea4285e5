use Rattle.std.proofs.Common.{◌∙◌, ap, arith}
use Rattle.tree_write.specs.Kept.{count_kept}
use Rattle.tree_write.proofs.Sizes.{counts}
use Rattle.tree_write.proofs.short.producers_length.Goals as goal

pub returns : goal.returns
returns c = λ cores. counts _ _ (omega (arith, c.taken.type_inv)) (ap count_kept c.taken.ensures ∙ c.write_producers.ensures cores)
