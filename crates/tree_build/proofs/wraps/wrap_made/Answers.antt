use Rattle.std.proofs.Common.{◌∙◌, ap}
use Rattle.comp_tree.specs.Lists.{node_of}
use Rattle.tree_build.specs.Held.{held, loose}
use Rattle.tree_build.specs.Making.{wraps_of, leaf_made}
use Rattle.tree_build.proofs.Taken.{node_at}
use Rattle.tree_build.proofs.Wrapped.{leaf_made as leaf_is_made, made_wrapped}
use Rattle.tree_build.proofs.wraps.wrap_made.Goals as goal

pub returns-in-Ok-place : goal.returns-in-Ok-place
returns-in-Ok-place c = leaf_is_made (wraps_of c.args.making) _ c.leaf.result c.args.scratch.now c.take_node.new.scratch c.leaf.new.self (λ fs cs. loose fs cs c.made_leaf.result) c.in-Ok.ensures.0 c.leaf.ensures
    (λ fs cs h a z.
    let x = node_at c.args.rows c.args.leaves c.in-Ok.node c.args.scratch.now c.take_node.new.scratch fs cs a z.0 z.1 (c.in-Ok.ensures.1 fs cs h) in
    made_wrapped c.args.making a (held fs cs c.args.scratch.now) (held fs cs c.take_node.new.scratch) (loose fs cs c.made_leaf.result) x.rest
    (c.made_leaf.ensures fs cs ∙ ap (leaf_made c.args.making) (ap (node_of cs) c.in-Ok-place.ensures ∙ x.node)))
