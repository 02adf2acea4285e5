use Rattle.std.proofs.Common.{◌≡◌, ◌+◌, option_map, refl, arith}
use Rattle.comp_tree.specs.Model.{lent_text}
use Rattle.tree_write.specs.Along.{ids_in, labels_in}
use Rattle.tree_write.proofs.ItemNames.{part_turn, parts_done}
use Rattle.tree_write.proofs.item_names.push_parts.Goals as goal

pub loop-rest-init : goal.loop-rest-init
loop-rest-init c = λ s b q h. (refl, refl)

pub loop-rest-preserved : goal.loop-rest-preserved
loop-rest-preserved c = λ s b q h.
    let now = c.loop-rest.invariant s b q h in
    let left = now.1 in
    let next : c.saturating_add-at.result ≡ c.loop-rest.at + 1 = omega (arith, c.saturating_add-at.ensures, left, h, c.loop-rest-test.true) in (
      part_turn s c.args.run.space b c.loop-rest.at c.saturating_add-at.result c.loop-rest.rest c.saturating_add-index.result (ids_in c.args.of.now) (labels_in c.args.of.now) (option_map lent_text c.part_name.result) _ _ _ next
          c.loop-rest-test.true (λ z. let same = q z in omega (arith, c.saturating_add-index.ensures, same, left, h, c.loop-rest-test.true)) c.part_name.ensures (c.in_ok-push_name.ensures s) now.0,
      omega (arith, next, left, c.loop-rest-test.true),
    )

pub returns : goal.returns
returns c = λ s b q h. parts_done s c.args.run.space b c.loop-rest.at c.loop-rest.rest (ids_in c.args.of.now) (labels_in c.args.of.now) _ _ (omega (arith, c.loop-rest-test.false)) (c.loop-rest.invariant s b q h).0
