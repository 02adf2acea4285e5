use Rattle.std.proofs.Common.{sym, subst, get_or}
use Rattle.tree_write.specs.SpaceSums.{no_sum, Tells}
use Rattle.tree_write.proofs.name_lengths.map_length_at.Goals as goal

pub returns : goal.returns
returns c = λ ns t. c.map_length.ensures ns (subst (λ n. Tells (get_or c.args.sums.now n no_sum) ns) (sym c.space_number-number.ensures.number) t)
