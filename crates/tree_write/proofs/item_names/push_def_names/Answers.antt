use Rattle.std.proofs.Common.{◌≡◌, ◌++◌, ◌+◌, ◌<◌, ◌^◌, List, arith, length}
use Rattle.std.proofs.lemmas.Result.{on_ok_weaker}
use Rattle.comp_model.specs.CoreModules.{CoreModule}
use Rattle.comp_model.specs.declared.Space.{Space}
use Rattle.tree_write.specs.Along.{names_of_def, of_space, spaces_of}
use Rattle.tree_write.specs.CountedItems.{count_of}
use Rattle.tree_write.proofs.FewCounted.{always_one, count_fits}
use Rattle.tree_write.proofs.ItemNames.{always_declared}
use Rattle.tree_write.proofs.item_names.push_def_names.Goals as goal

pub returns-in-Always : goal.returns-in-Always
returns-in-Always c =
    let counts = c.args.counts.now in
    let u = c.in-Always.space in
    let d = c.args.def.now in
    on_ok_weaker {Q = (cores : List CoreModule) (s : Space) → count_of s counts + length (spaces_of cores d) < 2 ^ 64 → of_space s c.push_parts.new.items.items ≡ of_space s c.args.items.now.items ++ names_of_def cores s (count_of s counts) d} _
    (λ h cores s few.
    let one = always_one cores d u c.in-Always.ensures in
    always_declared cores s (count_of s counts) d u _ _ c.in-Always.ensures
    (h s (count_of s counts) (λ q. count_fits s u counts c.space_number.result _ c.space_number.ensures.number c.small-before.ensures (omega (arith, few)) q) (omega (arith, few, one)))) c.push_parts.ensures
