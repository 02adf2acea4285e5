use Rattle.std.proofs.Common.{◌∙◌, ◌-◌, ◌<◌, length, drop, drop_of_length-le, get_or, le_refl, sym, ap, arith}
use Rattle.comp_model.specs.Payloads.{item_name_bytes}
use Rattle.tree_write.specs.Along.{of_space}
use Rattle.tree_write.specs.Kept.{put}
use Rattle.tree_write.proofs.NameSections.{item_here, name_put}
use Rattle.tree_write.proofs.Puts.{put_none}
use Rattle.tree_write.proofs.Turns.{same_item}
use Rattle.tree_write.proofs.name_section.write_items.Goals as goal

pub loop-i-init : goal.loop-i-init
loop-i-init g c =
    let k = g.S.Sink.kept c.args.sink.now in
    let none = drop_of_length-le c.args.items.now (le_refl (length c.args.items.now)) in
    (sym (ap (λ xs. put (item_name_bytes (of_space c.args.space xs)) k) none ∙ put_none k), sym (ap (λ xs. length (of_space c.args.space xs)) none), omega arith)

pub loop-i-preserved-then-is_same : goal.loop-i-preserved-then-is_same
loop-i-preserved-then-is_same g c =
    let k = g.S.Sink.kept c.args.sink.now in
    let items = c.args.items.now in
    let s = c.args.space in
    let inside : c.loop-i.i - 1 < length items = omega (arith, c.loop-i-test.true, c.loop-i.auto.i) in
    let here = item_here s items c.loop-i.i (get_or items (c.loop-i.i - 1) _) c.loop-i-test.true c.loop-i.auto.i (same_item items (c.loop-i.i - 1) _ inside) (sym c.is_same.ensures ∙ c.if-is_same.true) in (
      name_put _ _ (of_space s (drop c.loop-i.i items)) k _ _ _ c.loop-i.invariant.0 c.write_text.ensures c.write_unsigned.ensures ∙ ap (λ ns. put (item_name_bytes ns) k) (sym here),
      (let e = ap length here in omega (arith, e, c.loop-i.invariant.1)),
      omega (arith, c.loop-i.invariant.2, c.loop-i-test.true),
    )
