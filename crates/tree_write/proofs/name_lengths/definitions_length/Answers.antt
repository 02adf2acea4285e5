use Rattle.std.proofs.Common.{arith}
use Rattle.tree_write.specs.Along.{names_in}
use Rattle.tree_write.specs.CountedItems.{count_of}
use Rattle.tree_write.specs.SpaceSums.{sum_at}
use Rattle.tree_write.proofs.SpaceSums.{defs_begun, defs_turn, defs_end}
use Rattle.tree_write.proofs.name_lengths.definitions_length.Goals as goal

pub loop-def-init : goal.loop-def-init
loop-def-init c = λ cores s. defs_begun cores s c.args.defs.now

pub loop-def-preserved : goal.loop-def-preserved
loop-def-preserved c = λ cores s.
    defs_turn cores s (sum_at s c.loop-def.sums) (sum_at s c.add_names.new.sums) (count_of s c.loop-def.counts) (count_of s c.count_items.new.counts) c.loop-def.def-index c.args.defs.now c.def-item.result _ c.loop-def-test.true
    (omega (arith, c.entries-most.type_inv, c.entries-most.ensures)) c.def-item.is (c.add_names.ensures cores s) (c.count_items.ensures.items cores s) (c.count_items.ensures.few cores s) (c.loop-def.invariant cores s)

pub returns : goal.returns
returns c = λ cores. c.maps_length.ensures (λ s. names_in cores s 0 c.args.defs.now) (λ s. defs_end cores s (sum_at s c.loop-def.sums) (count_of s c.loop-def.counts) c.loop-def.def-index c.args.defs.now _ c.loop-def-test.false (c.loop-def.invariant cores s))
