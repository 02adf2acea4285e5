use Rattle.std.proofs.Common.{sym, subst}
use Rattle.comp_tree.specs.Model.{root_of}
use Rattle.tree_names.specs.AllFound.{root_found, FoundBehind}
use Rattle.tree_names.proofs.Counting.{path_refused, path_counted, root_span, some_steps}
use Rattle.tree_names.proofs.Rooting.{path_behind}
use Rattle.tree_names.proofs.Room.{path_fits}
use Rattle.tree_names.proofs.count.count_path.Goals as goal

pub count_steps-requires-clause-room : goal.count_steps-requires-clause-room
count_steps-requires-clause-room c = path_fits _ c.args.space c.args.root c.args.exports.now (some_steps c.args.exports.now c.if-is_empty.ensures) c.requires.room

pub returns-then-not-path_allowed-clause-counted : goal.returns-then-not-path_allowed-clause-counted
returns-then-not-path_allowed-clause-counted c = path_refused c.args.scopes.now c.args.space c.args.root c.args.exports.now _ c.if-is_empty.ensures (sym c.if-not-path_allowed.ensures) (root_span c.args.root _ c.span.ensures.span)

pub returns-clause-counted : goal.returns-clause-counted
returns-clause-counted c =
    path_counted c.args.scopes.now c.args.space c.args.root c.args.exports.now c.args.sums.now _ (some_steps c.args.exports.now c.if-is_empty.ensures) (sym c.if-not-path_allowed.ensures) c.count_steps.ensures.sized
    c.count_steps.ensures.counters

pub returns-clause-kept : goal.returns-clause-kept
returns-clause-kept c =
    path_behind c.args.scopes.now c.args.space c.args.root c.args.exports.now (some_steps c.args.exports.now c.if-is_empty.ensures) _ _
    (subst (λ u. FoundBehind c.args.scopes.now (λ ms. root_found ms u (root_of c.args.root)) c.args.found.now.items c.count_root.new.found.items) c.instance_space.ensures c.in_ok-count_root.ensures.kept)
