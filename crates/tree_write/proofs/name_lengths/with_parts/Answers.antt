use Rattle.std.proofs.Common.{refl, arith}
use Rattle.tree_write.specs.CountedItems.{items_in}
use Rattle.tree_write.proofs.SpaceSums.{parts_turn, parts_out, parts_end}
use Rattle.tree_write.proofs.name_lengths.with_parts.Goals as goal

pub loop-rest-preserved : goal.loop-rest-preserved
loop-rest-preserved c = λ s u ns q h t.
    parts_turn s u c.args.before c.loop-rest.now c.with_part-now.result c.loop-rest.at _ c.loop-rest.rest c.args.of.now _ q h (omega (arith, c.named_parts-parts.type_inv, c.if-at-parts.false)) refl c.loop-rest-test.true c.with_part-now.ensures (c.loop-rest.invariant s u ns q h t)

pub returns-then-at-parts : goal.returns-then-at-parts
returns-then-at-parts c = λ s u ns q h t.
    parts_out s u (items_in c.args.before) c.loop-rest.now c.loop-rest.at c.loop-rest.rest c.named_parts-parts.result c.args.of.now _ c.named_parts-parts.ensures.ids c.named_parts-parts.ensures.labels c.if-at-parts.true (c.loop-rest.invariant s u ns q h t)

pub returns : goal.returns
returns c = λ s u ns q h t. parts_end s u (items_in c.args.before) c.loop-rest.now c.loop-rest.at c.loop-rest.rest c.args.of.now _ c.loop-rest-test.false (c.loop-rest.invariant s u ns q h t)
