use Rattle.std.proofs.Common.{◌≡◌, ◌*◌, ◌^◌, ◌++◌, ℕ, drop, map}
use Rattle.comp_model.specs.declared.Space.{Space}
use Rattle.comp_model.specs.Spaces.{items_from}
use Rattle.wire_tree.specs.Lists.{defs_listed}
use Rattle.comp_list.specs.Listing.{spot_of}
use Rattle.comp_list.specs.Spots.{spots_of, AreWithin}
use Rattle.comp_list.specs.Room.{DefsFit}
use Rattle.comp_list.proofs.spots.push_defs.Given as goal

abbrev pub invariant-loop-node : goal.invariant-loop-node
invariant-loop-node l =
    ((level : ℕ) × DefsFit (defs_listed (drop l.node-index l.defs)) level l.def)
    × AreWithin l.spots (l.def * 2 ^ 32)
    × ((s : Space) → spots_of l.spots s ++ map spot_of (items_from s l.def (defs_listed (drop l.node-index l.defs)))
    ≡ spots_of l.initial.spots s ++ map spot_of (items_from s 0 (defs_listed l.defs)))
