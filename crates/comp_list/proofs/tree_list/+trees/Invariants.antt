use Rattle.std.proofs.Common.{◌≡◌, ◌++◌, drop}
use Rattle.item_tree.specs.Model.{defs_listed}
use Rattle.comp_list.specs.Open.{scopes_of, AllFound}
use Rattle.comp_list.specs.Listing.{defs_lines}
use Rattle.comp_list.specs.Room.{DefsFit}
use Rattle.comp_list.proofs.tree_list.+trees.Given as goal

abbrev pub invariant-push_items-loop-item : goal.invariant-push_items-loop-item
invariant-push_items-loop-item l =
    DefsFit (defs_listed (drop l.item-index l.items)) l.level l.def
    × (AllFound l.around →
    l.lines.items ++ defs_lines (defs_listed (drop l.item-index l.items)) l.level (scopes_of l.around) l.def
    ≡ l.initial.lines.items ++ defs_lines (defs_listed l.items) l.level (scopes_of l.around) 0)
