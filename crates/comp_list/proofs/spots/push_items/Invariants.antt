use Rattle.std.proofs.Common.{◌≡◌, ◌*◌, ◌^◌, ◌++◌, ℕ, drop, map}
use Rattle.comp_model.specs.declared.Space.{Space}
use Rattle.comp_model.specs.Spaces.{items_from}
use Rattle.item_tree.specs.Model.{defs_listed}
use Rattle.comp_list.specs.Listing.{spot_of}
use Rattle.comp_list.specs.Spots.{spots_of, AreWithin}
use Rattle.comp_list.specs.Room.{DefsFit}
use Rattle.comp_list.proofs.spots.push_items.Given as goal

abbrev pub invariant-loop-item : goal.invariant-loop-item
invariant-loop-item l =
    ((level : ℕ) × DefsFit (defs_listed (drop l.item-index l.items)) level l.def)
    × AreWithin l.spots (l.def * 2 ^ 32)
    × ((s : Space) → spots_of l.spots s ++ map spot_of (items_from s l.def (defs_listed (drop l.item-index l.items)))
    ≡ spots_of l.initial.spots s ++ map spot_of (items_from s 0 (defs_listed l.items)))
