use Rattle.std.proofs.Common.{◌≡◌, ◌∙◌, ap, sym, refl, subst, length, map, take, drop}
use Rattle.comp_model.specs.Model as m
use Rattle.text_rules.specs.Rule.{a_list}
use Rattle.text_rules.specs.Made.{nodes_from}
use Rattle.comp_tree.specs.Lists.{node_of}
use Rattle.comp_tree.specs.declared.tree.Leaf as l
use Rattle.comp_tree.proofs.Leaves.{leaf_nodes}
use Rattle.tree_build.specs.Held.{held, loose}
use Rattle.tree_build.proofs.Prefixes.{grows_itself}
use Rattle.tree_build.proofs.Slices.{take_map, drop_map}
use Rattle.tree_build.proofs.Views.{nodes_are_listed}
use Rattle.tree_build.proofs.Wrapped.{leaf_made, list_wrapped}
use Rattle.tree_build.proofs.wraps.wrap_list.Goals as goal

pub returns-in-Ok : goal.returns-in-Ok
returns-in-Ok c = leaf_made a_list _ c.leaf.result c.args.scratch.now (record c.args.scratch.now { nodes = c.take_all.new.parts }) c.leaf.new.self (λ fs cs. loose fs cs (l.Nodes c.in-Ok.nodes)) (grows_itself c.args.scratch.now.cores) c.leaf.ensures
    (λ fs cs h a z.
    list_wrapped a (held fs cs c.args.scratch.now) (λ ns. m.nodes (nodes_from ns)) _ (loose fs cs (l.Nodes c.in-Ok.nodes))
    (ap (λ x. record (held fs cs c.args.scratch.now) { nodes = x })
    (ap (map (node_of cs)) c.in-Ok.ensures.rest ∙ (take_map (node_of cs) c.args.nodes c.args.scratch.now.nodes.items ∙ ap (λ k. take k (map (node_of cs) c.args.scratch.now.nodes.items)) (sym z))))
    (leaf_nodes cs c.in-Ok.nodes ∙ (ap m.nodes (sym (nodes_are_listed cs c.in-Ok.nodes.now))
    ∙ ap (λ ns. m.nodes (nodes_from ns)) (ap (map (node_of cs)) c.in-Ok.ensures.taken ∙ (drop_map (node_of cs) c.args.nodes c.args.scratch.now.nodes.items ∙ ap (λ k. drop k (map (node_of cs) c.args.scratch.now.nodes.items)) (sym z))))))
