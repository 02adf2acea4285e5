use Rattle.std.proofs.Common.{sym, subst, MatchResult, arith}
use Rattle.comp_model.specs.Model as m
use Rattle.comp_tables.specs.Built.{missing_leaf}
use Rattle.tree_names.specs.Counted.{Refused}
use Rattle.tree_names.specs.Read.{LeafRead}
use Rattle.tree_names.specs.Room.{RoomForLeaf}
use Rattle.tree_names.proofs.ReadParts.{empty_path}
use Rattle.tree_names.proofs.Rooting.{root_there, path_front, path_is_read}
use Rattle.tree_names.proofs.Room.{path_fits, path_room}
use Rattle.tree_names.proofs.leaf.resolve_path.Goals as goal

pub resolve_index-requires-clause-room : goal.resolve_index-requires-clause-room
resolve_index-requires-clause-room c = subst (λ q. RoomForLeaf c.args.reading.now (m.ref c.args.space q)) (empty_path c.args.root c.args.exports.now (omega (arith, c.if-exports-lt1.true))) c.requires.room

pub resolve_steps-requires-clause-room : goal.resolve_steps-requires-clause-room
resolve_steps-requires-clause-room c = path_fits _ c.args.space c.args.root c.args.exports.now (omega (arith, c.if-exports-lt1.false)) c.requires.room.counters

pub refer-requires : goal.refer-requires
refer-requires c = record { room = path_room c.args.reading.now c.resolve_steps.new.reading c.args.space c.args.root c.args.exports.now (omega (arith, c.if-exports-lt1.false)) c.requires.room c.in-Ok.ensures.path.place }

pub returns-then-exports-lt1 : goal.returns-then-exports-lt1
returns-then-exports-lt1 c = λ e o.
    subst (λ q. MatchResult c.resolve_index.result (λ i. LeafRead e c.args.scopes.now c.args.reading.now c.resolve_index.new.reading (m.ref c.args.space q) (m.ref c.args.space (m.numeral o i))) (Refused c.args.scopes.now (λ ms. missing_leaf e ms (m.ref c.args.space q))))
    (sym (empty_path c.args.root c.args.exports.now (omega (arith, c.if-exports-lt1.true)))) (c.resolve_index.ensures e o)

pub resolve_steps-requires-clause-rooted : goal.resolve_steps-requires-clause-rooted
resolve_steps-requires-clause-rooted c = root_there c.args.scopes.now c.args.space c.args.root c.args.exports.now (omega (arith, c.if-exports-lt1.false)) c.requires.rooted

pub resolve_steps-requires-clause-kept : goal.resolve_steps-requires-clause-kept
resolve_steps-requires-clause-kept c = path_front c.args.scopes.now c.args.space c.args.root c.args.exports.now (omega (arith, c.if-exports-lt1.false)) c.args.reading.now.denotations.left.now c.requires.kept

pub returns-in-Ok : goal.returns-in-Ok
returns-in-Ok c = λ e o.
    path_is_read e c.args.scopes.now c.args.space c.args.root c.args.exports.now c.args.reading.now c.resolve_steps.new.reading _ _ o (omega (arith, c.if-exports-lt1.false)) c.in-Ok.ensures.path c.in-Ok.ensures.taken c.in-Ok.ensures.served
    c.refer.ensures.place
