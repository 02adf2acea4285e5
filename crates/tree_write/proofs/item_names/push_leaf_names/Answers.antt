use Rattle.std.proofs.Common.{◌≡◌, ◌+◌, refl, arith}
use Rattle.tree_write.specs.Along.{ids_in, labels_in}
use Rattle.tree_write.specs.CountedItems.{count_of}
use Rattle.tree_write.proofs.FewCounted.{count_fits, leaves_split}
use Rattle.tree_write.proofs.ItemNames.{leaf_turn, leaves_done}
use Rattle.tree_write.proofs.item_names.push_leaf_names.Goals as goal

pub loop-leaf-init : goal.loop-leaf-init
loop-leaf-init c = λ cores s h. (refl, omega arith)

pub loop-leaf-preserved : goal.loop-leaf-preserved
loop-leaf-preserved c =
    let counts = c.args.counts.now in
    let r = c.leaf_run-run.result in
    let i = c.loop-leaf.leaf-index in
    let xs = c.args.leaves.now in
    let d = c.args.by in
    λ cores s h.
    let now = c.loop-leaf.invariant cores s h in
    let left = now.1 in
    let run = c.leaf_run-run.ensures cores in
    let split = leaves_split cores xs i c.leaf-item.result d r c.loop-leaf-test.true c.leaf-item.is run in
    let next : c.saturating_add-part.result ≡ c.loop-leaf.part + r.count = omega (arith, c.saturating_add-part.ensures, left, split, h) in (
      leaf_turn cores s (count_of s counts) c.loop-leaf.part c.saturating_add-part.result i (ids_in c.args.of.now) (labels_in c.args.of.now) xs c.leaf-item.result d r _ _ _ c.loop-leaf-test.true c.leaf-item.is run next
          (c.in_ok-push_parts.ensures s (count_of s counts) (λ q. count_fits s r.space counts c.space_number.result _ c.space_number.ensures.number c.small-before.ensures (omega (arith, h)) q) (omega (arith, h, left, split))) now.0,
      omega (arith, next, left, split),
    )

pub returns : goal.returns
returns c = λ cores s h. leaves_done cores s (count_of s c.args.counts.now) c.loop-leaf.part c.loop-leaf.leaf-index (ids_in c.args.of.now) (labels_in c.args.of.now) c.args.leaves.now c.args.by _ _ c.loop-leaf-test.false (c.loop-leaf.invariant cores s h).0
