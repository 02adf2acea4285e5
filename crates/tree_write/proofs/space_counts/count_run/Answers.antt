use Rattle.std.proofs.Common.{refl, arith, get_or, subst, ◌+◌, ◌<◌, ◌^◌, ◌≡◌}
use Rattle.tree_write.specs.CountedItems.{items_in, no_items}
use Rattle.tree_write.proofs.CountedItems.{run_counted, run_few}
use Rattle.tree_write.proofs.space_counts.count_run.Goals as goal

pub returns-clause-items : goal.returns-clause-items
returns-clause-items c =
    let n = c.space_number-number.result in
    let x = get_or c.args.counts.now n no_items in
    λ s h. run_counted s c.args.run.space c.args.counts.now _ n c.more.result c.args.run.count c.space_number-number.ensures.number (omega (arith, c.space_number-number.ensures.few, c.requires.spaces)) refl
    (subst (λ k. items_in x + k < 2 ^ 192 → items_in c.more.result ≡ items_in x + k) c.run_length.ensures c.more.ensures) (omega (arith, c.run_length.type_inv, c.run_length.ensures)) h

pub returns-clause-few : goal.returns-clause-few
returns-clause-few c = λ s. run_few s c.args.run.space c.args.run.count (omega (arith, c.run_length.type_inv, c.run_length.ensures))
