use Rattle.std.proofs.Common.{refl}
use Rattle.comp_model.specs.Spaces.{declares}
use Rattle.comp_tree.specs.Lists.{def_of}
use Rattle.tree_resolve.proofs.Tables.{def_counted}
use Rattle.std.proofs.Common.{◌+◌, length, arith}
use Rattle.comp_model.specs.Spaces.{declares_row}
use Rattle.comp_tables.specs.Bounds.{most_needs}
use Rattle.comp_tree.specs.Lists.{listed}
use Rattle.tree_names.proofs.Room.{sums_less}
use Rattle.tree_resolve.proofs.Room.{sums_items}
use Rattle.tree_resolve.proofs.table.count_def.Goals as goal

pub count_leaves-requires-clause-room : goal.count_leaves-requires-clause-room
count_leaves-requires-clause-room c =
    let C = c.requires.room.0 in
    let ls = listed C c.args.def.now.node.leaves.now in
    (C, sums_less (most_needs ls + length (declares_row c.args.def.now.node.row ls)) (most_needs ls) (omega arith) c.requires.room.1)

pub enter_declared-requires : goal.enter_declared-requires
enter_declared-requires c =
    let C = c.requires.room.0 in
    let ls = listed C c.args.def.now.node.leaves.now in
    record { room = (C, sums_items c.args.scopes.now c.args.sums.now c.count_leaves.new.sums ls (length (declares_row c.args.def.now.node.row ls)) (c.in-Ok.ensures.counted C) c.requires.room.1) }

pub returns-in-Ok-enter_declared-clause-counted : goal.returns-in-Ok-enter_declared-clause-counted
returns-in-Ok-enter_declared-clause-counted c = λ C.
    let w = c.in-Ok-enter_declared.ensures.entered C in
    def_counted C c.args.scopes.now c.args.def.now c.args.sums.now c.count_leaves.new.sums _ c.args.table.now.items c.enter_declared.new.table.items
    (declares (def_of C c.args.def.now)) w.index (c.in-Ok.ensures.counted C) refl w.first w.small w.table w.behind refl refl
