use Rattle.std.proofs.Common.{◌≡◌, subst, map}
use Rattle.wire_tree.specs.Lists.{listed}
use Rattle.comp_list.specs.References.{references}
use Rattle.comp_order.specs.Order.{verdict_of}
use Rattle.comp_order.specs.Pass.{pass}
use Rattle.comp_order.proofs.scope_order.pass_own.Goals as goal

pub returns : goal.returns
returns c = λ before befores h a.
    let t = c.args.node.now.row in
    let ls = listed c.args.node.now.leaves.now in
    subst (λ o. c.pass_leaves.result ≡ pass c.args.line (map (verdict_of befores before t ls o) (references ls))) c.outer_count.ensures
    (c.pass_leaves.ensures before befores t ls h c.own_counts-own.ensures a)
