use Rattle.std.proofs.Common.{refl, sym, ap, map}
use Rattle.comp_model.specs.Spaces.{declares_row}
use Rattle.comp_tree.specs.Lists.{listed}
use Rattle.tree_resolve.proofs.Building.{definition-built}
use Rattle.tree_resolve.proofs.BuiltPlain.{plain-needed, plain-becomes}
use Rattle.std.proofs.Common.{◌+◌, length, arith}
use Rattle.comp_tables.specs.Bounds.{most_needs}
use Rattle.tree_resolve.proofs.Room.{room_less, resolved_room}
use Rattle.tree_resolve.proofs.build.build_resolved.Goals as goal

pub resolve_definition-requires-clause-room : goal.resolve_definition-requires-clause-room
resolve_definition-requires-clause-room g c =
    let ls = listed (map g.M.CoreSource.core_module c.args.cores.now) c.args.def.now.node.leaves.now in
    room_less c.args.counters.now (most_needs ls + length (declares_row c.args.def.now.node.row ls)) (most_needs ls) (omega arith) c.requires.room

pub advance_declared-requires : goal.advance_declared-requires
advance_declared-requires g c =
    let C = map g.M.CoreSource.core_module c.args.cores.now in
    let ls = listed C c.args.def.now.node.leaves.now in
    record { room = (C, resolved_room _ _ _ _ _ _ _ (length (declares_row c.args.def.now.node.row ls)) c.in-Ok.ensures.resolves c.requires.served c.requires.room) }

pub returns-clause-built : goal.returns-clause-built
returns-clause-built g c =
    let C = map g.M.CoreSource.core_module c.args.cores.now in
    let resolved = c.in-Ok.ensures.resolves in
    definition-built
    (plain-needed resolved c.definition_of.result c.deref.result.now c.args.list.now.items c.push_aliases.new.list.items c.definition_of.ensures c.deref.ensures.value (c.in-Ok-push_aliases.ensures.pushed C))
    (plain-becomes resolved _ (ap (listed C) (sym c.with_leaves.ensures.leaves)) c.with_leaves.ensures.origin c.with_leaves.ensures.names c.with_leaves.ensures.row c.requires.expanded c.requires.whole)
    c.push.new.self.items c.in-Ok.resolved.1.counters c.advance_declared.new.counters c.in-Ok.resolved.1.denotations.served.now
    (declares_row c.args.def.now.node.row (listed C c.args.def.now.node.leaves.now)) c.in-Ok-push.ensures.items resolved.sized (λ ms k more w u v. (resolved.by ms k more w u v).counts) (λ ms k more w u v. (resolved.by ms k more w u v).served)
    refl (c.in-Ok-advance_declared.ensures.advanced C) resolved.known c.requires.written_out
