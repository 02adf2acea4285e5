use Rattle.std.proofs.Common.{◌≡◌, ◌<◌, ◌+◌, ◌*◌, ◌^◌, ◌++◌, length, drop}
use Rattle.comp_model.specs.declared.Space.{Space}
use Rattle.comp_model.specs.Spaces.{leaves_spaces}
use Rattle.wire_tree.specs.Lists.{listed}
use Rattle.comp_list.specs.Spots.{spots_of, def_spots, AreWithin}
use Rattle.comp_list.proofs.spots.push_leaves.Given as goal

abbrev pub invariant-loop-leaf : goal.invariant-loop-leaf
invariant-loop-leaf l =
    (l.part + length (leaves_spaces (listed (drop l.leaf-index l.leaves)) l.by) < 2 ^ 32)
    × AreWithin l.spots (l.def * 2 ^ 32 + l.part)
    × ((s : Space) → spots_of l.spots s ++ def_spots s l.def l.part (leaves_spaces (listed (drop l.leaf-index l.leaves)) l.by)
    ≡ spots_of l.initial.spots s ++ def_spots s l.def 0 (leaves_spaces (listed l.leaves) l.by))
