use Rattle.std.proofs.Common.{arith, subst}
use Rattle.comp_model.specs.Core.{outward}
use Rattle.comp_tables.specs.Built.{missing_root}
use Rattle.comp_tree.specs.Model.{root_of}
use Rattle.tree_names.specs.AllFound.{root_found, FoundFirst}
use Rattle.tree_names.specs.Counted.{RefusedBy}
use Rattle.tree_names.specs.Rooted.{RootsPassed}
use Rattle.tree_names.proofs.Rooting.{path_front, path_rooted, path_unrooted, empty_rooted}
use Rattle.tree_names.proofs.roots.check_path.Goals as goal

pub returns-then-exports-lt1 : goal.returns-then-exports-lt1
returns-then-exports-lt1 c = empty_rooted c.args.scopes.now c.args.space c.args.root c.args.exports.now _ _ (omega (arith, c.if-exports-lt1.true)) (c.pass_index.ensures c.args.scopes.now c.args.space outward)

pub returns-in-Ok : goal.returns-in-Ok
returns-in-Ok c = λ front.
    let os = c.args.scopes.now in
    let i = c.args.root in
    path_rooted os c.args.space i c.args.exports.now (omega (arith, c.if-exports-lt1.false)) _ _
    (subst (λ u. FoundFirst os (λ ms. root_found ms u (root_of i)) c.args.denotations.now.left.now → RootsPassed os (λ ms. missing_root ms u (root_of i)) (λ ms. root_found ms u (root_of i)) c.args.denotations.now.left.now c.check_root.new.denotations.left.now)
    c.instance_space.ensures c.in-Ok.ensures (path_front os c.args.space i c.args.exports.now (omega (arith, c.if-exports-lt1.false)) _ front))

pub returns-in-Err : goal.returns-in-Err
returns-in-Err c = λ front.
    let os = c.args.scopes.now in
    let i = c.args.root in
    path_unrooted os c.args.space i c.args.exports.now (omega (arith, c.if-exports-lt1.false)) _
    (subst (λ u. FoundFirst os (λ ms. root_found ms u (root_of i)) c.args.denotations.now.left.now → RefusedBy os (λ ms. missing_root ms u (root_of i)) c.in-Err.refused)
    c.instance_space.ensures c.in-Err.ensures (path_front os c.args.space i c.args.exports.now (omega (arith, c.if-exports-lt1.false)) _ front))
