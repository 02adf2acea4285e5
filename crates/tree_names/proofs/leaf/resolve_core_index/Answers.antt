use Rattle.std.proofs.Common.{true, subst, sym, ◌∷◌, []}
use Rattle.comp_model.specs.declared.Space.TheVariants.{CoreType}
use Rattle.comp_model.specs.Model as m
use Rattle.comp_tree.specs.Model.{id_of, reach_of, core_reference}
use Rattle.tree_names.specs.AllFound.{name_found, leaf_found, FoundFirst}
use Rattle.tree_names.specs.Room.{RoomForLeaf}
use Rattle.tree_names.proofs.Room.{core_room}
use Rattle.tree_names.proofs.leaf.resolve_core_index.Goals as goal

pub refer-requires : goal.refer-requires
refer-requires c = record { room = core_room c.args.reading.now (reach_of c.args.reach) c.args.index (c.requires.room true) }

pub resolve_name-requires-clause-room : goal.resolve_name-requires-clause-room
resolve_name-requires-clause-room c = subst (λ i. RoomForLeaf c.args.reading.now (m.core_value (core_reference true (reach_of c.args.reach) i))) c.in-Id.is (c.requires.room true)

pub resolve_name-requires-clause-kept : goal.resolve_name-requires-clause-kept
resolve_name-requires-clause-kept c =
    subst (λ r. FoundFirst c.args.scopes.now (λ ms. name_found ms CoreType r (id_of c.in-Id.id) ∷ []) c.args.reading.now.denotations.left.now) (sym c.lend_reach.ensures)
    (subst (λ i. FoundFirst c.args.scopes.now (λ ms. leaf_found ms (m.core_value (core_reference true (reach_of c.args.reach) i))) c.args.reading.now.denotations.left.now) c.in-Id.is (c.requires.kept true))
