use Rattle.std.proofs.Common.{◌++◌, ◌∙◌, replicate, ◌<◌, ◌^◌, ap, arith, length}
use Rattle.tree_write.specs.Along.{names_in, of_space, spaces_of}
use Rattle.tree_write.specs.CountedItems.{count_of, no_items}
use Rattle.tree_write.proofs.CountedItems.{none_counted}
use Rattle.tree_write.proofs.FewCounted.{counted-most, defs_split}
use Rattle.tree_write.proofs.ItemNames.{def_turn, defs_done}
use Rattle.tree_write.proofs.item_names.items_of.Goals as goal

pub loop-def-init : goal.loop-def-init
loop-def-init c = λ cores s.
    (λ few. ap (λ xs. of_space s xs ++ names_in cores s (count_of s (replicate 13 no_items)) c.args.defs.now) c.new-items.ensures.items ∙ ap (λ n. names_in cores s n c.args.defs.now) (none_counted s), omega (arith, none_counted s), omega (arith, none_counted s))

pub loop-def-preserved : goal.loop-def-preserved
loop-def-preserved c = λ cores s.
    let d = c.def-item.result in
    let ds = c.args.defs.now in
    let i = c.loop-def.def-index in
    let now = c.loop-def.invariant cores s in
    let most = now.1 in
    let left = now.2 in
    let short : length ds < 2 ^ 64 = omega (arith, c.entries-most.type_inv, c.entries-most.ensures) in
    let counted = c.count_items.ensures.items cores s (omega (arith, most, short, c.loop-def-test.true)) in
    let split = defs_split cores ds i d c.loop-def-test.true c.def-item.is in (
      λ few.
          def_turn cores s (count_of s c.loop-def.counts) (count_of s c.count_items.new.counts) i ds d _ _ _ c.loop-def-test.true c.def-item.is counted (c.in_ok-push_def_names.ensures cores s (omega (arith, few, left, split))) (now.0 few),
      omega (arith, most, counted, c.count_items.ensures.few cores s),
      omega (arith, left, split, counted, counted-most s (spaces_of cores d)),
    )

pub returns : goal.returns
returns c = λ cores s few. defs_done cores s (count_of s c.loop-def.counts) c.loop-def.def-index c.args.defs.now _ _ c.loop-def-test.false ((c.loop-def.invariant cores s).0 few)
