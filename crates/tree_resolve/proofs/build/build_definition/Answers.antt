use Rattle.std.proofs.Common.{inl, map, refl}
use Rattle.comp_tree.specs.Lists.{listed}
use Rattle.tree_resolve.proofs.Outcomes.{match-weaker, on-any}
use Rattle.tree_resolve.proofs.StaysPlain.{plain-taken}
use Rattle.std.proofs.Common.{◌+◌, length, arith}
use Rattle.comp_model.specs.Spaces.{declares_row}
use Rattle.comp_tables.specs.Bounds.{most_needs}
use Rattle.tree_resolve.proofs.Room.{room_less}
use Rattle.tree_resolve.proofs.build.build_definition.Goals as goal

pub push_plain-requires-clause-room : goal.push_plain-requires-clause-room
push_plain-requires-clause-room g c =
    let C = map g.M.CoreSource.core_module c.args.cores.now in
    let ls = listed C c.args.def.now.node.leaves.now in
    (C, room_less c.args.counters.now (most_needs ls + length (declares_row c.args.def.now.node.row ls)) (length (declares_row c.args.def.now.node.row ls)) (omega arith) c.requires.room)

pub returns-then-is_plain-clause-built : goal.returns-then-is_plain-clause-built
returns-then-is_plain-clause-built g c =
    match-weaker c.push_plain.result (c.push_plain.ensures g.M.CoreRule.encoding (map g.M.CoreSource.core_module c.args.cores.now) c.args.scopes.now c.args.denoted.now.served.now)
    (λ behind h. h) (λ x h. inl h)

pub returns-then-is_plain-clause-taken : goal.returns-then-is_plain-clause-taken
returns-then-is_plain-clause-taken g c =
    let C = map g.M.CoreSource.core_module c.args.cores.now in
    on-any c.push_plain.result (plain-taken g.M.CoreRule.encoding c.args.scopes.now (listed C c.args.def.now.node.leaves.now) c.args.denoted.now.left.now (c.if-is_plain.ensures refl C))
