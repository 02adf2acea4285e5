use Rattle.std.proofs.Common.{refl, arith, get_or, drop}
use Rattle.tree_write.specs.Along.{ids_in, labels_in}
use Rattle.tree_write.specs.SpaceSums.{no_sum}
use Rattle.tree_write.proofs.SpaceSums.{names_added}
use Rattle.tree_write.proofs.name_lengths.add_parts.Goals as goal

pub returns : goal.returns
returns c =
    let n = c.space_number-number.result in
    λ s ns h t. names_added s c.args.run.space c.args.sums.now _ n (get_or c.args.sums.now n no_sum) c.with_parts.result c.space_number-number.ensures.number (omega (arith, c.space_number-number.ensures.few, c.requires.spaces)) refl refl
    c.args.counts.now c.args.from c.args.run.count (drop c.args.from (ids_in c.args.of.now)) (drop c.args.from (labels_in c.args.of.now)) ns c.with_parts.ensures h t
