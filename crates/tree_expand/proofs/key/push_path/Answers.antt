use Rattle.std.proofs.Common.{◌∙◌, ◌++◌, [], sym, ap, subst, arith, take, ◌+◌, ◌-◌, ℕ, ◌≡◌}
use Rattle.comp_tree.specs.Model.{path_from, root_of}
use Rattle.type_keys.specs.Keys.{path_key}
use Rattle.tree_expand.specs.KeyParts.{KeyShows}
use Rattle.tree_expand.proofs.FirstSpace.{ok-then}
use Rattle.tree_expand.proofs.PathParts.{path_less, path_target, take_none}
use Rattle.tree_expand.proofs.key.push_path.Goals as goal

pub returns : goal.returns
returns c = λ ps h.
    let r = c.loop-i.invariant ps h in
    let root = root_of c.args.path.now.root in
    let ts = c.args.path.now.exports.now in
    ok-then c.push_part-2.result
    (λ q. subst (λ v. KeyShows c.push_part-2.new.key v)
    (ap (λ v. r.0 ++ v) (c.root_part.ensures ∙ ap (λ v. path_key (path_from root v) []) (sym (take_none ts c.loop-i.i c.loop-i-test.false))) ∙ r.2 ∙ ap (λ v. ps ++ v) (sym (path_target c.args.path.now.root ts c.if-path-eq0.false)))
    q)
    (c.push_part-2.ensures r.0 r.1)

pub loop-i-preserved : goal.loop-i-preserved
loop-i-preserved c = λ ps h.
    let r = c.loop-i.invariant ps h in
    let i : ℕ = c.loop-i.i - 1 in
    let e : i + 1 ≡ c.loop-i.i = omega (arith, c.loop-i-test.true) in
    (_, c.in_ok-push_part.ensures r.0 r.1, path_less (root_of c.args.path.now.root) c.args.path.now.exports.now i _ _ r.0 (omega (arith, c.loop-i-test.true, c.loop-i.auto.i)) (ap (λ n. r.0 ++ path_key (path_from (root_of c.args.path.now.root) (take n c.args.path.now.exports.now)) []) e ∙ r.2))
